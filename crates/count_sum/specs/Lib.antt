pub mod SumPairs
pub mod KeyCells
pub mod Positions
