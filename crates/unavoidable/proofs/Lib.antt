pub mod Cases
pub mod Steps
