pub mod Searches
pub mod Targets
pub mod Twos
pub mod FirstEntry
pub mod LookUps
pub mod Logs
