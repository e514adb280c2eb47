pub mod Leads
pub mod Either
