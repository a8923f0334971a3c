pub mod Files
pub mod Ways
