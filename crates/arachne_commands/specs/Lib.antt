pub mod Fault
pub mod Drive
pub mod Running
