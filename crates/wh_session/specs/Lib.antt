pub mod Line
pub mod Session
pub mod Sending
pub mod Laws
