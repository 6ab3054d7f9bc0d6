pub mod Emptying
pub mod Putting
