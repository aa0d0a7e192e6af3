pub mod Claims
pub mod Grants
pub mod Messages
pub mod Owners
pub mod Sessions
pub mod Steps
