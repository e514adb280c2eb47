pub mod Thresholds
pub mod Intervals
pub mod Slots
pub mod Merging
