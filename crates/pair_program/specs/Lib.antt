-- The definitions that contracts cite, a file for each subject.
pub mod Mates
pub mod Pairs
pub mod Chains
pub mod BiLayout
pub mod BiSizes
pub mod BiFlows
pub mod BiLaws
pub mod Pairing
pub mod Words
pub mod Statuses
pub mod Outcome
