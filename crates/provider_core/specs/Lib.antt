pub mod Faults
pub mod Lines
pub mod Layouts
pub mod Asking
pub mod Answering
pub mod Cells
