pub mod ThresholdLaw
pub mod IntervalLaw
pub mod OneLevel
pub mod Made
pub mod Merging
pub mod SlotEnds
pub mod SlotSteps
pub mod SlotLaws
