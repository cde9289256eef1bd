pub mod Decimal
pub mod Lines
pub mod Transcript
pub mod Worked
