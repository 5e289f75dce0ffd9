pub mod Lists
pub mod Sides
pub mod Fills
pub mod Limits
pub mod Executed
pub mod Mirror
pub mod Crossed
