pub mod Digits
pub mod Ends
