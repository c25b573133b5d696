-- The operands that wait as the code holds them, in two arrays, and what a command does with them: that of Run.antt.
use Rattle.std.specs.Prelude.{ℕ, ◌+◌, ◌<◌, true, ◌⊎◌, ◌≡◌, List, ℤ, pos, length, get_or, take, drop, refl, Result, Ok, Err}
use Rattle.std.specs.Coded.{Coded, code_by, coded×, coded_list, coded_ℕ, coded_ℤ}
use Rattle.slices.specs.Stack.{stack_of}
use Rattle.slices.specs.Bytes.{bytes_value}
use Rattle.semantics.specs.declared.Command.{Command}
use Rattle.semantics.specs.declared.Refusal.{Refusal}
use Rattle.semantics.specs.Code.{command_row, need_met}
use Rattle.stacks.specs.Run.{Move, look_at}
use Rattle.stacks.specs.declared.Effect.{Effect}

-- operands that wait, the last one first, and for how many there is room
pub record Waiting : Type 0 where
  pub operands : List ℤ
  pub room : ℕ

abbrev pub waiting_code : Coded Waiting
waiting_code =
    code_by (List ℤ × ℕ) (coded× (coded_list coded_ℤ) coded_ℕ) (λ w. (w.operands, w.room)) (λ p. record { operands = p.0; room = p.1 }) (λ _. refl)

-- the first n of an array
abbrev pub waiting : List ℤ → ℕ → List ℤ
waiting operands n = stack_of (λ k. get_or operands k (pos 0)) n

-- what a command may go by: its operands wait, and its result has room
pub record Ready (c : Command) (values indexes : Waiting) : Type 0 where
  pub met : need_met (command_row c) (length values.operands) (length indexes.operands) ≡ true
  pub values_fit : length values.operands + length indexes.operands < values.room
  pub indexes_fit : length values.operands + length indexes.operands < indexes.room

-- what a command with the operand bytes n does: the value of a lookup or of an oracle terminal is still to be pushed
abbrev pub effect_of : List ℕ → List ℤ → List ℤ → Result Effect Refusal → Move
effect_of n vs is (Ok Effect.Nothing) = Move.on vs is
effect_of n vs is (Ok (Effect.Amount list step)) = look_at list vs is step
effect_of n vs is (Ok Effect.Oracle) = Move.ask (take 32 n) (bytes_value (drop 32 n)) vs is
effect_of n vs is (Ok (Effect.Verdict v)) = Move.ended (Ok v)
effect_of n vs is (Err r) = Move.ended (Err r)

-- a price is still to be pushed only if the command is an oracle terminal
abbrev pub OracleOnly : Command → Result Effect Refusal → Type 0
OracleOnly c (Ok Effect.Oracle) = (c ≡ Command.PriceOracle1) ⊎ (c ≡ Command.PriceOracle1W)
OracleOnly c (Ok Effect.Nothing) = Unit {0}
OracleOnly c (Ok (Effect.Amount list step)) = Unit {0}
OracleOnly c (Ok (Effect.Verdict v)) = Unit {0}
OracleOnly c (Err r) = Unit {0}
