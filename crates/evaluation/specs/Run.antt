-- What a command goes by and does to the state of evaluation, and what the run answers.
use Rattle.std.specs.Prelude.{ℕ, ◌*◌, ◌≤◌, ◌<◌, ◌≡◌, Bool, List, ℤ, length, drop, Option, Some, None, Result, Ok, Err}
use Rattle.semantics.specs.declared.Command.{Command}
use Rattle.semantics.specs.declared.Refusal.{Refusal}
use Rattle.semantics.specs.Code.{command_row}
use Rattle.semantics.specs.Evaluate.{Evaluation, ended}
use Rattle.semantics.specs.Evaluation.{State, check_size, err, ok}
use Rattle.condition.specs.Walk.{counted, fold_terminals}
use Rattle.summary.specs.declared.Summary.{Summary}
use Rattle.witness.specs.declared.Progress.{Progress}
use Rattle.stacks.specs.Run.{Run}

-- there is room for the operands that wait, and for the checks
abbrev pub Room : ℕ → ℕ → ℕ → Summary → Type 0
Room values indexes size s = (s.most < values) × (s.most < indexes) × (check_size * s.oracles ≤ size)

-- what a command goes by beside its operands: there is room for the check of an oracle terminal
pub record Supplied (c : Command) (ends out : List ℕ) (p : Progress) : Type 0 where
  pub few : p.left ≤ length ends
  pub room : check_size * fold_terminals counted p.checks (command_row c).terminals ≤ length out

-- no witness element comes back, a check is new only with an oracle terminal, and the bytes after the checks are as they were
pub record Moves (c : Command) (old new : List ℕ) (p p' : Progress) : Type 0 where
  pub fewer : p'.left ≤ p.left
  pub more : p.checks ≤ p'.checks
  pub counted_in : p'.checks ≤ fold_terminals counted p.checks (command_row c).terminals
  pub kept : drop (check_size * p'.checks) new ≡ drop (check_size * p'.checks) old

-- how the run stands after a command, by what it answered: with these operands it goes on, or the verdict or a refusal ends it
abbrev pub run_of : List ℤ → List ℤ → State → Result (Option Bool) Refusal → Run State
run_of vs is st (Ok None) = Run.going vs is st
run_of vs is st (Ok (Some v)) = Run.stopped (ok v st)
run_of vs is st (Err r) = Run.stopped (err r st)

-- what a run that has stopped answers
abbrev pub Answers : List ℕ → Run State → Evaluation → Type 0
Answers old (Run.going vs is st) e = ⊥
Answers old (Run.stopped o) e = e ≡ ended old o
