pub mod Idling
pub mod Loading
pub mod SetUp
