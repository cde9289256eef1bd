pub mod Ways
pub mod Shown
pub mod Peeks
