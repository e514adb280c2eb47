pub mod Reads
pub mod Questions
pub mod Writes
pub mod Outputs
pub mod Stops
