pub mod InLogs
pub mod Guards
pub mod Fitting
pub mod Whole
pub mod Forms
