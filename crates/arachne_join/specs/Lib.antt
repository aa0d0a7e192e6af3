pub mod States
pub mod Views
pub mod Rule
pub mod Steps
pub mod Parts
pub mod BlockRule
pub mod BlockSteps
pub mod Openings
