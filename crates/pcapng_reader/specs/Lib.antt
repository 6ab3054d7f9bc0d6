-- The definitions that contracts cite, a file for each subject.
pub mod Blocks
pub mod Options
pub mod Interfaces
pub mod Records
pub mod Reading
pub mod Index
pub mod Views
pub mod Fronts
pub mod Filtered
pub mod Statuses
pub mod Outcome
pub mod Tallied
pub mod Counting
pub mod Filtering
pub mod Cut
