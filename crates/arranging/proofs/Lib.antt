pub mod Zip
pub mod Places
pub mod Back
pub mod Arranging
pub mod Valid
