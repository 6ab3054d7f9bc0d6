-- The definitions that contracts cite, a file for each subject.
pub mod Acts
pub mod Places
pub mod Reading
pub mod Shown
pub mod Trying
pub mod Outcome
pub mod Ending
pub mod Closed
pub mod Collecting
