-- The lemmas of this crate.
pub mod Complete
pub mod Files
pub mod FirstKeys
pub mod Turns
pub mod Totals
pub mod Seen
