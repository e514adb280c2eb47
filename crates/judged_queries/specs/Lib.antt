pub mod Queries
pub mod Codes
