pub mod KeyFields
pub mod KeyOrder
pub mod KeyWords
pub mod Masks
