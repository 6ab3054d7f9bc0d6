-- The lemmas, a file for each subject.
pub mod Cutting
pub mod Parts
pub mod Place
pub mod Search
pub mod Joined
pub mod InParts
pub mod Headed
pub mod OneKind
