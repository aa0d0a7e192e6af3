pub mod Breaks
pub mod Rules
