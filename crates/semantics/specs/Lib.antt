-- The definitions, in reading order.
pub mod Trees
pub mod Refusals
pub mod Operations
pub mod Token
pub mod Code
pub mod Parse
pub mod Oracle
pub mod FromTokens
pub mod Evaluation
pub mod Check
pub mod Evaluate
pub mod Records
pub mod Write
pub mod Decode
pub mod Meaning
