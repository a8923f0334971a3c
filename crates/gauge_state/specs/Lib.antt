pub mod Left
pub mod Order
pub mod Done
