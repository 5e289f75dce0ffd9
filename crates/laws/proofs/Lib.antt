-- Of sequences and units, of pairings, and of what bounds every sum.
pub mod Lists
pub mod Sorting
pub mod Simple
pub mod Sequence
pub mod Divisor
pub mod Pairings
pub mod Bounds
