pub mod AtHome
pub mod Counts
pub mod Room
pub mod Ends
pub mod Closed
pub mod Moves
pub mod Words
