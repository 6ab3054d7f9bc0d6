-- The definitions that contracts cite, a file for each subject.
pub use Rattle.octets.specs.Numbers
pub use Rattle.link_types.specs.Links
pub mod File
pub mod Records
pub mod Index
pub mod Views
pub mod Parts
pub mod Front
