pub mod Asked
pub mod Agree
pub mod Sizes
