pub mod Rules
pub mod Turns
pub mod Walks
pub mod Passing
pub mod Rows
pub mod Faults
pub mod Taken
pub mod Ranges
