pub mod ByWords
pub mod Others
pub mod Putting
pub mod Entries
pub mod Lowest
pub mod Words
