pub mod Effects
pub mod Refusals
pub mod Questions
pub mod Commands
pub mod Meets
pub mod HeldSessions
