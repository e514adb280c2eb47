pub mod Moves
pub mod Mapped
pub mod MappedLists
pub mod Entered
