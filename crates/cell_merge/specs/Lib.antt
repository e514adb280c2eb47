pub mod Rows
pub mod Entries
pub mod Cells
pub mod Triples
pub mod TableRows
pub mod OneRow
