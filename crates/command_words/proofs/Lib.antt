pub mod Chains
pub mod Rows
pub mod Simple
pub mod Names
