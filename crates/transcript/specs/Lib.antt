pub mod Refusals
pub mod Lines
pub mod Text
pub mod Run
pub mod Bench
