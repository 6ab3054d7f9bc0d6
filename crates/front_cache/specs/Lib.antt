-- The definitions that contracts cite, a file for each subject.
pub mod Fronts
pub mod Kept
