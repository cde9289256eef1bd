pub mod Accepting
pub mod Answers
pub mod CellLines
pub mod Decimals
pub mod Forward
pub mod Inputs
pub mod Worked
