pub mod Behind
pub mod Moving
pub mod Numbers
pub mod Grouping
pub mod Groups
