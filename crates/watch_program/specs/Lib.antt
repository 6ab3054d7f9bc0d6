-- The definitions that contracts cite, a file for each subject.
pub mod Answers
pub mod Lines
pub mod Words
pub mod Statuses
pub mod Outcome
