pub mod Place
pub mod Occupancy
pub mod Marked
pub mod World
pub mod OwnedOnce
pub mod Run
pub mod ContextTable
pub mod TableChanges
