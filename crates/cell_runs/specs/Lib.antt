pub mod CellsBy
pub mod Runs
