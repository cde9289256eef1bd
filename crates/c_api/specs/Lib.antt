pub mod InNumbers
