pub mod Listing
pub mod Tables
pub mod Finding
pub mod Apart
pub mod Tags
pub mod Keeping
