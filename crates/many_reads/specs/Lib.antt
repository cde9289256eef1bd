pub mod Lent
pub mod Cells
