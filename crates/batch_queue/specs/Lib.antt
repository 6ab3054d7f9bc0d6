pub mod Batches
pub mod Queueing
pub mod Saying
pub mod Passes
pub mod Uniting
