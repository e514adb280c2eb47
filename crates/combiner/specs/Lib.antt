pub mod Combining
pub mod GoodWords
pub mod Finals
