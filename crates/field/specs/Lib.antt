-- The definitions that the contracts and the theorems of `field` cite, in the order in which they build on each other.
pub mod LittleEndian
pub mod Table
pub mod Answer
pub mod Field
pub mod Exported
pub mod RoundTrip
pub mod Tags
pub mod Worked
