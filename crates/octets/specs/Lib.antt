-- The definitions that contracts cite, a file for each subject.
pub mod Numbers
pub mod Outcome
