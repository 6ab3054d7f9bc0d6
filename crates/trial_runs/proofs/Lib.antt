pub mod Uncut
pub mod OneText
