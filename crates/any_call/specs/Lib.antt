pub mod AnyCall
