pub mod Reaching
pub mod Turns
