-- The definitions that contracts cite.
pub mod Holding
pub mod Trying
pub mod Watching
