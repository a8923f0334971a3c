pub mod Held
pub mod Opened
pub mod Fitting
