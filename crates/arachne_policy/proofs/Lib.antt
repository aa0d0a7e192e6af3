pub mod InOrder
pub mod InTurn
pub mod Records
