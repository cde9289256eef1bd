pub mod Theorems
pub mod Ending
pub mod OfCode
