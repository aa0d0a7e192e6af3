pub mod Weight
pub mod Tokens
