pub mod Differences
pub mod Sides
pub mod Open
pub mod Searching
pub mod Running
