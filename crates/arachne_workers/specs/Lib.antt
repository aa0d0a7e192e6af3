pub mod Lowest
pub mod Posts
pub mod RunQueues
pub mod Keeping
