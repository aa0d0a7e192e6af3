pub mod Causes
pub mod Choosers
pub mod RunRefusals
