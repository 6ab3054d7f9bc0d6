pub mod Words
pub mod Lines
pub mod Outcome
