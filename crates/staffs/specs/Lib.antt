pub mod Staffs
pub mod Back
pub mod Fed
pub mod Heights
pub mod Placed
pub mod Turns
pub mod Calls
