pub mod Endings
pub mod ServeSteps
