-- What the checks answer.
pub mod Answers
