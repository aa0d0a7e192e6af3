pub mod Choice
pub mod Draining
pub mod KernelThreads
pub mod Orders
pub mod Placed
