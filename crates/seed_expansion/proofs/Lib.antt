pub mod Bits
pub mod Steps
pub mod Walk
pub mod Leaves
mod TapeWords
