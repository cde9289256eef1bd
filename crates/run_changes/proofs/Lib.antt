pub mod Cells
pub mod Changes
