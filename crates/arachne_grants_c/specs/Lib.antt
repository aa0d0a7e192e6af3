pub mod Codes
pub mod ArbiterRow
pub mod ArbiterHeld
pub mod ArbiterTold
pub mod MessageTold
