pub mod Elements
pub mod Fields
pub mod Templates
pub mod Sizes
pub mod Values
