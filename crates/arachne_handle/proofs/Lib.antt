pub mod Values
pub mod Steps
pub mod Sent
