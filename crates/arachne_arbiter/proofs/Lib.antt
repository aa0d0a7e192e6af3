pub mod DrainingCores
pub mod Kept
pub mod Loads
