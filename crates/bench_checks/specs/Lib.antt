-- Definitions that the contracts cite.
pub mod Going
pub mod Looked
