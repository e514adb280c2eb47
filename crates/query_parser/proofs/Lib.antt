pub mod Steps
pub mod PartSteps
pub mod Final
pub mod Drafts
