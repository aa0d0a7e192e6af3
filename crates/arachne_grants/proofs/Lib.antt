pub mod ClaimOrder
pub mod Counts
pub mod Decided
pub mod Giving
pub mod Held
pub mod Least
pub mod Levels
pub mod Marks
pub mod Next
pub mod Order
pub mod Promises
pub mod Reading
pub mod Sound
pub mod Standing
pub mod Stays
pub mod Taking
mod WorkedMessages
