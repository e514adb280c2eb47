pub mod Names
pub mod Kinds
pub mod Codes
pub mod CellTexts
pub mod Shapes
pub mod ShapeTexts
pub mod Tables
pub mod Laws
