pub mod Trees
pub mod Keys
pub mod KeyReading
pub mod Texts
pub mod Frames
pub mod FrameReading
pub mod Notes
pub mod NoteReading
