pub mod Common
pub mod Crew
pub mod Emptied
pub mod Shares
pub mod Whole
