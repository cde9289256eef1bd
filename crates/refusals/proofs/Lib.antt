pub mod Ways
pub mod Turned
pub mod Admission
