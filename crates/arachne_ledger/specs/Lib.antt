pub mod Sums
pub mod Views
pub mod Balance
pub mod Seats
pub mod Steps
