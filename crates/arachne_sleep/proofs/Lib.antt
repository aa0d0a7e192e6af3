pub mod Weaving
pub mod Turns
pub mod Consistency
pub mod Histories
pub mod OneHolderLaw
pub mod Seating
pub mod Dealing
pub mod Threads
mod WorkedHistories
pub mod Growing
pub mod Traces
pub mod Keeps
pub mod Visiting
