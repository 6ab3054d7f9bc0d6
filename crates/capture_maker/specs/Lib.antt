-- The definitions that contracts cite, a file for each subject.
pub mod Draws
pub mod Made
