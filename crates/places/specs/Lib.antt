pub mod Lowest
pub mod Faults
pub mod Met
pub mod MetAs
