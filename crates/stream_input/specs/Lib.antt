-- The definitions that contracts cite, a file for each subject.
pub mod Failing
pub mod Pieces
