pub mod Crossing
pub mod Counts
pub mod Keeps
pub mod Seated
