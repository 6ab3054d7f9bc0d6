-- The definitions that contracts cite, a file for each subject.
pub mod Closing
pub mod Hands
pub mod Places
pub mod Ruled
pub mod Moves
pub mod Shown
