-- Laws of tests, of numbers and prices in digits, of the frame and of two groups exchanged, then the theorems that specs/ states.
pub mod Laws
pub mod Decimals
pub mod Framed
pub mod Written
pub mod Exchange
pub mod Sequences
pub mod Groups
pub mod Checked
