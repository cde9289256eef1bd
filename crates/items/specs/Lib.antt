pub mod Items
pub mod Leading
