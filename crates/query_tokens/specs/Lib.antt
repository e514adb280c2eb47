pub mod Lexing
pub mod Tokens
pub mod Printing
