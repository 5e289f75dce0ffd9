pub mod Tallied
pub mod Skip
pub mod Seconds
pub mod Both
