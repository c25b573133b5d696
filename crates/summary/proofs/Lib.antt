pub mod Counts
-- Laws of what the specs of this crate define.
pub mod Rows
pub mod Bounds
