pub mod Isolated
pub mod Starting
pub mod Turns
