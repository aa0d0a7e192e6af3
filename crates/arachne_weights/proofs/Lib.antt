pub mod Totals
pub mod Tokens
