pub mod Put
pub mod Decimal
pub mod Sums
pub mod Lines
