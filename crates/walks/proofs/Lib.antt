-- Rules for walks: proofs that follow the MIR of a function by hand. A walk's context is the locals, a token for each lifetime, and what each parameter owns.
--     `_i = rv;`  sets (Assign)        `_i = (*_j).k;`, `(*_j).k = rv;`  gets, puts (Through)        a match  matches (Match)        a loop  turns (Turn)
--     a call  calls (Call), and what it is lent  lends_ref, lends_slice, lends_local (Loans)        a return  returns (Walk)
--     the theorem  proves (Walk), concludes, cites (Close)
pub mod Frame
pub mod Value
pub mod Assign
pub mod Match
pub mod Data
pub mod Entries
pub mod Params
pub mod Call
pub mod Walk
pub mod Again
pub mod Lent
pub mod Loans
pub mod Through
pub mod Turn
pub mod Close
