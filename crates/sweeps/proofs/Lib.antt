pub mod Marks
pub mod Sweeps
