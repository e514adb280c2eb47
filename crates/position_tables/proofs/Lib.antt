pub mod Counting
pub mod PositionPairs
pub mod Singles
