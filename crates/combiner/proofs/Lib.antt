pub mod Adding
pub mod Codes
pub mod WordKinds
pub mod Cuts
pub mod Good
pub mod Merged
pub mod Plans
pub mod OfRows
