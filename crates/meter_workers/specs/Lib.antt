-- The definitions that contracts cite, a file for each subject.
pub mod Shares
pub mod Working
pub mod Whole
pub mod Batched
pub mod Ahead
