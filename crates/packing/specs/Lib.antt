pub mod Small
pub mod Inputs
pub mod Steps
pub mod Answers
pub mod Gauges
pub mod Packed
