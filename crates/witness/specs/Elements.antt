-- The witness by its ends: what a pop gives, and the state that the code holds in numbers and in the buffer for the checks.
use Rattle.std.specs.Prelude.{ℕ, zero, suc, ◌-◌, ◌*◌, List, [], ◌∷◌, reverse, get_or, take, Option, Some, None, Result, Ok, Err}
use Rattle.semantics.specs.declared.Refusal.{Refusal}
use Rattle.semantics.specs.Evaluate.{elements}
use Rattle.semantics.specs.Evaluation.{Outcome, State, check_size, err, ok}
use Rattle.witness.specs.declared.Progress.{Progress}

-- where element k starts
abbrev pub start_of : List ℕ → ℕ → ℕ
start_of ends zero = 0
start_of ends (suc k) = get_or ends k 0

-- the elements left, the top first
unfoldable pub left_of : List ℕ → List ℕ → ℕ → List (List ℕ)
left_of witness ends n = reverse (elements 0 witness (take n ends))

abbrev pub top_of : List (List ℕ) → Option (List ℕ)
top_of [] = None
top_of (e ∷ es) = Some e

-- the lent record after a pop
abbrev pub fewer : Progress → Progress
fewer p = record { left = p.left - 1; checks = p.checks }

-- what comes of a pop, by what it answered, the bytes of which `bytes` gives
abbrev pub taken : {A : Type 0} → (A → List ℕ) → Result A Refusal → State → Outcome State (List ℕ)
taken bytes (Ok e) st = ok (bytes e) st
taken bytes (Err r) st = err r st

-- the state of evaluation: the checks lie at the front of the buffer
abbrev pub state_of : List ℕ → List ℕ → List ℕ → ℕ → ℕ → State
state_of witness ends out left checks = record { checks = checks; written = take (check_size * checks) out; left = left_of witness ends left }
