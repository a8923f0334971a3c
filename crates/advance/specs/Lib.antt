pub mod Steps
pub mod Advance
