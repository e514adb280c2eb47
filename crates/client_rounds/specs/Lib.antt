pub mod Faults
pub mod Draws
pub mod Expanding
pub mod WellPut
pub mod Rounds
pub mod Finishing
