pub mod Ways
pub mod Agree
pub mod Turning
