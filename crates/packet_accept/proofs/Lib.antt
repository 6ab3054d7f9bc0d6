-- The lemmas, a file for each subject.
pub mod FileAnswers
pub mod Permuted
pub mod Clocks
