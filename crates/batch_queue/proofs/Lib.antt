pub mod Lists
pub mod Queueing
pub mod Saying
pub mod Passing
pub mod Records
