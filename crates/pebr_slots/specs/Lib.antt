pub mod Sets
pub mod Shown
