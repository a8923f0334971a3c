pub mod Between
pub mod Levels
pub mod Poured
pub mod Chains
