pub mod Few
pub mod Lists
pub mod Facts
pub mod Keys
pub mod Known
pub mod Codes
