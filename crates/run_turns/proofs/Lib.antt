pub mod OnRun
pub mod ByTable
pub mod SetUps
