-- What a function that does a stage of `oracle` promises.
use Rattle.std.specs.Prelude.{ℕ, ◌+◌, ◌*◌, ◌^◌, ◌≤◌, cond, ◌≡◌, List, ℤ, pos, length, drop, ltb, Result, Ok, Err}
use Rattle.semantics.specs.declared.Refusal.{Refusal}
use Rattle.semantics.specs.Evaluation.{Outcome, State, check_size, outcome}
use Rattle.witness.specs.declared.Progress.{Progress}
use Rattle.witness.specs.Elements.{state_of}

-- what a price of the witness is worth
abbrev pub priced : ℕ → Result ℤ Refusal
priced n = cond (ltb n (2 ^ 63)) (Ok (pos n)) (Err Refusal.PriceOverflow)

-- what an oracle terminal may go by
pub record Asks (terminal ends out : List ℕ) (p : Progress) : Type 0 where
  pub operands : length terminal ≡ 40
  pub room : check_size * p.checks + check_size ≤ length out
  pub few : p.left ≤ length ends

-- what is left of it gives this outcome; no element comes back, at most one check is new, and the bytes after the checks are as they were
pub record Gives (rest : State → Outcome State ℤ) (witness ends old new : List ℕ) (p : Progress) (value : Result ℤ Refusal) (p' : Progress) : Type 0 where
  pub gives : outcome value (state_of witness ends new p'.left p'.checks) ≡ rest (state_of witness ends old p.left p.checks)
  pub fewer : p'.left ≤ p.left
  pub more : p.checks ≤ p'.checks
  pub one : p'.checks ≤ p.checks + 1
  pub kept : drop (check_size * p'.checks) new ≡ drop (check_size * p'.checks) old
