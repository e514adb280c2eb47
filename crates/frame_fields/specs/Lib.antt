pub mod Typed
pub mod Reading
pub mod Pieces
