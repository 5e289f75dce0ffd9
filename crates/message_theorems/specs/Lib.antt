pub mod Groups
pub mod Written
pub mod Checked
