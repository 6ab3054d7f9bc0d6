pub mod Operations
pub mod Recorded
pub mod Tables
