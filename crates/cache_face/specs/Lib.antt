-- The definitions that contracts cite, a file for each subject.
pub mod Choice
pub mod Keeping
pub mod Laws
pub mod Meaning
pub mod Notes
pub mod Openings
pub mod Tries
