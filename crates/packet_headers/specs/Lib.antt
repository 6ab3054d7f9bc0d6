-- The definitions that contracts cite, a file for each subject.
pub use Rattle.octets.specs.Numbers
pub use Rattle.octets.specs.Outcome
pub use Rattle.link_types.specs.Links
pub mod Link
pub mod Packet
pub mod Ipv4
pub mod Extensions
pub mod Ipv6
pub mod Ip
pub mod Transport
pub mod Shown
