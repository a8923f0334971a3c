pub mod Asked
pub mod Deepest
