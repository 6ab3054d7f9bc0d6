-- The definitions that contracts cite, a file for each subject.
pub mod Options
pub mod Views
pub mod Command
