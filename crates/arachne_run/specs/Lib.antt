pub mod Reports
pub mod Setups
pub mod Choosers
pub mod Tokens
pub mod Distinct
pub mod Histories
pub mod Serving
