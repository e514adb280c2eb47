pub mod Clear
pub mod CellAnswers
pub mod AnswerText
pub mod FirstRows
pub mod Meaning
