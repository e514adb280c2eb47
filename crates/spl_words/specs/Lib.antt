pub mod Words
pub mod Secrets
pub mod Cursor
pub mod Results
pub mod Rising
pub mod Folds
