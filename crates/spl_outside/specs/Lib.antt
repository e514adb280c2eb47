pub mod Causes
pub mod Content
pub mod Fails
pub mod Memory
pub mod Peers
pub mod Wire
