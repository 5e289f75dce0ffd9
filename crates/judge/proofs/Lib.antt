pub mod Laws
pub mod Simple
