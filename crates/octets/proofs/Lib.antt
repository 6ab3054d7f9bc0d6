-- The lemmas, a file for each subject.
pub mod Fitting
pub mod Reading
