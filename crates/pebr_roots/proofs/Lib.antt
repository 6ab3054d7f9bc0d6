pub mod Passing
pub mod Scans
pub mod Orders
pub mod Counts
pub mod Whole
pub mod Dealing
