pub mod Under
pub mod Ends
pub mod Passes
pub mod Collecting
pub mod Orders
