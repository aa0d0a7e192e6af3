mod ClosedFirst
pub mod Aside
pub mod Counts
pub mod Together
pub mod Crossing
