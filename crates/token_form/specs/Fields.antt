-- The fields of the records of a command's tokens: by its operand bytes, and by the kind.
use Rattle.std.specs.Prelude.{ℕ, ◌-◌, cond, false, ◌≡◌, List, [], ◌∷◌, eqb, drop}
use Rattle.slices.specs.Bytes.{bytes_value}
use Rattle.token_table.specs.Kinds.{has_number}
use Rattle.semantics.specs.declared.Command.{Command}
use Rattle.semantics.specs.Code.{Made, command_row}

-- the number and the place of a record, by its kind: `number` is that of a Num, `bits` that of a Bytes8
abbrev pub number_at : ℕ → ℕ → ℕ → ℕ
number_at number bits kind = cond (eqb kind 1) number (cond (eqb kind 2) bits 0)

abbrev pub place_at : ℕ → ℕ → ℕ
place_at place kind = cond (eqb kind 3) place 0

-- what a command's operand bytes give its tokens: the number of a Num, and that of a Bytes8
pub record Payload : Type 0 where
  pub number : ℕ
  pub bits : ℕ

-- the number of a Num is 1 but for an index constant; that of a Bytes8 is the last eight operand bytes of a value
abbrev payload_of : Made → ℕ → List ℕ → Payload
payload_of Made.nothing width n = record { number = 1; bits = 0 }
payload_of Made.index width n = record { number = cond (eqb width 0) 1 (bytes_value n); bits = 0 }
payload_of Made.value width n = record { number = 1; bits = cond (eqb width 0) 0 (bytes_value (drop (width - 8) n)) }
payload_of Made.condition width n = record { number = 1; bits = 0 }

abbrev pub payload : Command → List ℕ → Payload
payload c n = payload_of (command_row c).makes (command_row c).width n

-- the kind of a command's only token: a Num or a Bytes8 with the number of eight operand bytes, or one that carries nothing
pub record Single (c : Command) (kind : ℕ) : Type 0 where
  pub width : (command_row c).width ≡ cond (has_number kind) 8 0
  pub keyless : eqb kind 3 ≡ false
  pub tokens : (n : List ℕ) → (command_row c).tokens n ≡ record { kind = kind; number = cond (has_number kind) (bytes_value n) 0; key = [] } ∷ []
