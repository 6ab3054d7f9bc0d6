pub mod Apart
pub mod Contents
pub mod Four
pub mod Keeping
