pub mod Lengths
pub mod OneRead
pub mod AsModel
pub mod Whole
