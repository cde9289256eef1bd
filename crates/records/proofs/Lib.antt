pub mod Numbers
pub mod Tags
pub mod Refusals
