-- The lemmas of this crate.
pub mod Stays
pub mod Entries
pub mod Watches
