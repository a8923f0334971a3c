pub mod Channels
pub mod Files
