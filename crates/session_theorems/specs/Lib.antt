pub mod Calls
pub mod Cases
pub mod Sessions
