-- The lemmas, a file for each subject.
pub mod Powers
pub mod Optioned
pub mod Pieces
pub mod Placed
pub mod Raw
pub mod Written
pub mod Fitting
pub mod Gathered
pub mod Answered
pub mod Cutting
pub mod Answering
pub mod Tallying
