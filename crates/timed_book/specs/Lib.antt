pub mod Answers
pub mod Timed
