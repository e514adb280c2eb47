pub mod Fields
pub mod Records
pub mod Tables
pub mod Written
pub mod RoundTrip
pub mod Saying
