pub mod FillSteps
pub mod SendSteps
pub mod Splits
pub mod Telling
