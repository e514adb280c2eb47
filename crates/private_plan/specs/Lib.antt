pub mod Plans
pub mod Lengths
pub mod Branches
pub mod Slots
pub mod Rounds
pub mod Counts
