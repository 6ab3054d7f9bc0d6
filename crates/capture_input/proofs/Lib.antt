pub mod Filled
pub mod Filling
pub mod Walk
pub mod Given
pub mod Ranges
