pub mod Message
pub mod Runs
