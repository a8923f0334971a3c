pub mod Unique
pub mod Told
