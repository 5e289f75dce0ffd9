pub mod Fields
pub mod Steps
