pub mod ByQuote
pub mod Said
