pub mod ReplySteps
pub mod RoundSteps
