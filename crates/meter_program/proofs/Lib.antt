pub mod Endings
pub mod Streams
pub mod Places
pub mod Causes
pub mod Metered
pub mod Made
pub mod Shown
