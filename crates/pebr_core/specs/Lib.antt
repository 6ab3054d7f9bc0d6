pub mod State
pub mod Steps
pub mod Kept
pub mod Runs
pub mod Marks
pub mod Shown
pub mod Entries
pub mod Frames
