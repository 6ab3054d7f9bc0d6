-- The lemmas, a file for each subject.
pub mod Packets
