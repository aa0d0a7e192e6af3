pub mod Changes
pub mod KeepsOwnedOnce
pub mod Runs
pub mod OccupancyWords
pub mod MarkWords
pub mod TableWorlds
pub mod TableEvents
pub mod TableInvariant
mod WorkedWords
mod WorkedWorlds
