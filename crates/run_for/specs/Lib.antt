pub mod Runs
pub mod Each
