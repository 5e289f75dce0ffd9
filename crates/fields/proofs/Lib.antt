mod Runs
mod Tags
mod Digits
pub mod Laws
mod Reading
