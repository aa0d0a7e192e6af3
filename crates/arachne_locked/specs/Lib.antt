pub mod Seats
pub mod AtHome
pub mod Room
pub mod Calls
pub mod Closing
