-- The definitions that contracts cite, a file for each subject.
pub mod Filling
pub mod Refusals
pub mod Inputs
pub mod Places
pub mod Parts
pub mod Giving
