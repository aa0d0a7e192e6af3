pub mod Granting
pub mod Marking
