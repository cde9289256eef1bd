pub mod Slots
pub mod FirstEntry
pub mod LookUps
