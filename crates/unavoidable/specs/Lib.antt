-- Document 02, S-8: its tables, what is promised under them, and examples.
pub mod Tables
pub mod Unavoidable
pub mod Cases
