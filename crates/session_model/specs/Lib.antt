pub mod Draws
pub mod Answers
pub mod Cells
pub mod Counts
pub mod Sessions
