pub mod Covers
pub mod Climbing
