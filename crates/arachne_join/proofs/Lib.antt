mod BlockLaws
mod CellSteps
pub mod Crossing
