pub mod Left
pub mod Oracles
