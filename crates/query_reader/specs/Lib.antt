pub mod Uses
pub mod Columns
pub mod Refusals
pub mod Accepted
pub mod Matching
pub mod Params
