-- Fair premium tables, then what is promised under them.
pub mod Fair
pub mod Demand3
pub mod Reach
