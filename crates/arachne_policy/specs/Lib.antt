pub mod Advice
pub mod Choice
pub mod Orders
pub mod Sample
pub mod State
