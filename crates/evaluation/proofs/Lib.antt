pub mod Calls
pub mod Loop
pub mod Lookups
