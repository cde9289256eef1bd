pub mod Output
pub mod Replay
