pub mod Lines
pub mod KnownBytes
pub mod CommandLines
mod WorkedCommandLines
pub mod Figures
pub mod OrderWords
pub mod OrderLists
pub mod SampleLines
pub mod SampleTexts
pub mod JudgedInTurn
pub mod Options
pub mod Causes
pub mod Refusals
