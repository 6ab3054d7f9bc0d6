pub mod Encoding
pub mod Layout
pub mod Laws
pub mod DataParts
pub mod DataSizes
pub mod Emitting
pub mod Copies
