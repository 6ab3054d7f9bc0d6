-- The definitions that contracts cite, a file for each subject.
pub use Rattle.link_types.specs.Links
pub use Rattle.octets.specs.Outcome
pub mod Cause
pub mod Key
pub mod Acceptance
pub mod Shown
pub mod Packets
pub mod Extremes
pub mod Clock
pub mod Ending
