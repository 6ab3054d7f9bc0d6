-- The definitions that contracts cite, a file for each subject.
pub mod Causes
pub mod Edge
pub mod Memory
pub mod Reading
pub mod Sides
