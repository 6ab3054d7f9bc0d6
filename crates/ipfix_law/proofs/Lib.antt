pub mod Numbers
pub mod Values
pub mod Records
pub mod DataSets
pub mod Sets
pub mod Messages
pub mod Streams
pub mod Layouts
