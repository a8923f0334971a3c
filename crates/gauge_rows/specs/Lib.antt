pub mod Passes
pub mod Chunks
pub mod Bounds
