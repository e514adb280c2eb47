pub mod Expanders
pub mod Walk
pub mod Leaves
pub mod Toy
pub mod ChaChaExpansion
pub mod Reading
pub mod Tapes
