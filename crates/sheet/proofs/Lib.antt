pub mod Columns
pub mod Wide
pub mod Lines
pub mod Laws
pub mod Examples
