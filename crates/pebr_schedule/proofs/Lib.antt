pub mod Cuts
pub mod Values
pub mod Texts
pub mod Lines
pub mod Decimals
pub mod Spelling
pub mod Whole
