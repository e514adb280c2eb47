pub mod Filling
pub mod Framing
pub mod Laws
pub mod Sending
pub mod Told
