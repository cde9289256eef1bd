-- Laws of the table, of the reader and of the writer (up to `Writings`), and the theorems on fields (`RoundTrip`, `Files`, `Worked`, `Instances`, and in
-- `Readings` that on a refusal's place).
pub mod Rows
pub mod Readings
pub mod Writings
pub mod Inverse
pub mod RoundTrip
pub mod Files
pub mod Worked
pub mod Instances
