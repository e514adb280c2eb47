pub mod KeptRows
pub mod Entries
