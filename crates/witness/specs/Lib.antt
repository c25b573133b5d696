pub mod Elements
pub mod Oracle
