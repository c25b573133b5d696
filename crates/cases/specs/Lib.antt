pub mod Cases
pub mod Known
