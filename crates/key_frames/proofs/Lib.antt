pub mod TreeLaws
pub mod KeyLaws
pub mod ShapeTextLaws
pub mod FrameLaws
pub mod NoteLaws
