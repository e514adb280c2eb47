pub mod Orders
pub mod Arguments
pub mod Forms
pub mod Views
