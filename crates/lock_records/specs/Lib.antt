pub mod Lent
pub mod Forms
