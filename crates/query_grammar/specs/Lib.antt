pub mod Queries
pub mod Grammar
pub mod Machine
pub mod Faults
pub mod Canonical
