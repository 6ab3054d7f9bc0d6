-- The definitions that contracts cite, a file for each subject.
pub mod Words
pub mod Joined
pub mod Statuses
pub mod Outcome
pub mod Taking
pub mod Filed
pub mod Laws
