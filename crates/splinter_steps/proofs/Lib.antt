pub mod Puts
pub mod Refused
