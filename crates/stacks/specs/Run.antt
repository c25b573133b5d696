-- Evaluation as one pass over the commands, with the values and indexes that wait, the last one first: for code that evaluates without a tree.
-- No call's contract rests on it: `run_code` of proofs/Run.antt says that it gives what `eval_arith` gives, whatever the state.
use Rattle.std.specs.Prelude.{ℕ, Bool, List, ◌∷◌, get_or, take, drop, ℤ, pos, Option, Some, None, Result, Ok, Err}
use Rattle.word64.specs.Bits.{signed_of}
use Rattle.index64.specs.Steps.{in_range}
use Rattle.slices.specs.Bytes.{bytes_value}
use Rattle.semantics.specs.Operations.{bin_row, cmp_row, idx_row, un_row}
use Rattle.semantics.specs.declared.AmountList.{AmountList}
use Rattle.semantics.specs.declared.Command.{Command}
use Rattle.semantics.specs.Evaluation.{Env, Outcome, Terminals, amount, amounts, err, looked_up, ok}
use Rattle.semantics.specs.declared.Refusal.{Refusal}

-- WHAT A COMMAND DOES with the operands that wait, whatever the state: these values and indexes wait then; or the amount of a list at an index, or the
-- value of an oracle terminal with a key and a time, is still to be pushed on the values; or the evaluation ends.
pub data Move : Type 0 where
  on : List ℤ → List ℤ → Move
  look : AmountList → ℤ → List ℤ → List ℤ → Move
  ask : List ℕ → ℕ → List ℤ → List ℤ → Move
  ended : Result Bool Refusal → Move

abbrev pub on_value : List ℤ → List ℤ → Result ℤ Refusal → Move
on_value vs is (Ok z) = Move.on (z ∷ vs) is
on_value vs is (Err r) = Move.ended (Err r)

abbrev pub on_index : List ℤ → List ℤ → Option ℤ → Move
on_index vs is (Some z) = Move.on vs (z ∷ is)
on_index vs is None = Move.ended (Err Refusal.IndexStep)

abbrev pub look_at : AmountList → List ℤ → List ℤ → Option ℤ → Move
look_at l vs is (Some i) = Move.look l i vs is
look_at l vs is None = Move.ended (Err Refusal.IndexStep)

-- the operand that waits k below the last
abbrev pub operand : List ℤ → ℕ → ℤ
operand xs k = get_or xs k (pos 0)

-- by the current index and the command's operand bytes n
abbrev pub move : ℕ → Command → List ℕ → List ℤ → List ℤ → Move
move current Command.Unknown n vs is = Move.on vs is
move current Command.IdxConst n vs is = on_index vs is (in_range (pos (bytes_value n)))
move current Command.CurrIdx n vs is = on_index vs is (in_range (pos current))
move current (Command.Index o) n vs is = on_index vs (drop 2 is) ((idx_row o).result (operand is 1) (operand is 0))
move current Command.Const n vs is = Move.on (signed_of (bytes_value n) ∷ vs) is
move current Command.CurrInputIdx n vs is = look_at AmountList.Input vs is (in_range (pos current))
move current (Command.Lookup l) n vs is = Move.look l (operand is 0) vs (drop 1 is)
move current (Command.Binary o) n vs is = on_value (drop 2 vs) is ((bin_row o).result (operand vs 1) (operand vs 0))
move current (Command.Unary o) n vs is = on_value (drop 1 vs) is ((un_row o).result (operand vs 0))
move current Command.PriceOracle1 n vs is = Move.ask (take 32 n) (bytes_value (drop 32 n)) vs is
move current Command.PriceOracle1W n vs is = Move.ask (take 32 n) (bytes_value (drop 32 n)) vs is
move current (Command.Compare o) n vs is = Move.ended (Ok ((cmp_row o).result (operand vs 1) (operand vs 0)))

-- WHAT COMES OF IT in a state
pub data Run (S : Type 0) : Type 0 where
  going : List ℤ → List ℤ → S → Run S
  stopped : Outcome S Bool → Run S

abbrev pub push_value : {S : Type 0} → List ℤ → List ℤ → Outcome S ℤ → Run S
push_value vs is (ok z st) = Run.going (z ∷ vs) is st
push_value vs is (err r st) = Run.stopped (err r st)

abbrev pub concluded : {S : Type 0} → Result Bool Refusal → S → Outcome S Bool
concluded (Ok v) st = ok v st
concluded (Err r) st = err r st

abbrev pub moved : {S : Type 0} → Terminals S → Env → S → Move → Run S
moved t env st (Move.on vs is) = Run.going vs is st
moved t env st (Move.look l i vs is) = push_value vs is (looked_up t env l (Some i) st)
moved t env st (Move.ask key time vs is) = push_value vs is (t.oracle key time st)
moved t env st (Move.ended v) = Run.stopped (concluded v st)

-- a lookup made apart from the state: what it pushes, and the state that it leaves
abbrev pub fetched : Env → Move → Move
fetched env (Move.on vs is) = Move.on vs is
fetched env (Move.look l i vs is) = on_value vs is (amount (amounts env l) l i)
fetched env (Move.ask key time vs is) = Move.ask key time vs is
fetched env (Move.ended v) = Move.ended v

abbrev pub after_look : {S : Type 0} → Terminals S → Env → Move → S → S
after_look t env (Move.on vs is) st = st
after_look t env (Move.look l i vs is) st = t.read (amounts env l) l i st
after_look t env (Move.ask key time vs is) st = st
after_look t env (Move.ended v) st = st

abbrev pub act : {S : Type 0} → Terminals S → Env → Command → List ℕ → List ℤ → List ℤ → S → Run S
act t env c n vs is st = moved t env st (move env.current c n vs is)

abbrev pub run_step : {S : Type 0} → Terminals S → Env → Run S → Command → List ℕ → Run S
run_step t env (Run.going vs is st) c n = act t env c n vs is st
run_step t env (Run.stopped o) c n = Run.stopped o
