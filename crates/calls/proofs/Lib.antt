pub mod Ways
pub mod Turning
pub mod Choices
pub mod Entering
