pub mod Survey
pub mod Turned
