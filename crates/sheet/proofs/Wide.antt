-- What stands in a column has room in it, so that every line has 29 characters.
use Prim.Native.Nat.{ℕ, ◌^◌, ◌≤◌, ◌<◌}
use mathlib.Core.Bool.{Bool, true, false, ◌&&◌, cond}
use mathlib.Core.Path.{◌≡◌, refl, ◌∙◌}
use mathlib.Core.List.{List, [], ◌∷◌}
use native.Mathlib.Omega.{arith}
use borrow.Author.Tests.{eqb-true, ltb-true}
use lib.Dec.{eqb, ltb}
use lib.ListN.{length, drop, length-append, length-drop}
use Rattle.slices.specs.Bytes.{Bytes, bytes_value}
use Rattle.slices.proofs.Bytes.{all_drop, value_lt}
use Rattle.decimals.specs.Decimal.{decimal}
use Rattle.decimals.proofs.Digits.{decimal_few, decimal-fits, signed-fits}
use Rattle.semantics.specs.declared.Command.{Command}
use Rattle.semantics.specs.declared.Refusal.{Refusal}
use Rattle.semantics.specs.Code.{command_in, command_of, command_row, commands, known}
use Rattle.semantics.specs.Parse.{Instruction}
use Rattle.semantics.specs.Refusals.{numbered}
use Rattle.semantics.proofs.Tests.{and_true}
use Rattle.sheet.specs.Sheet.{columns, command_line, operand, refusal_line}
use Rattle.sheet.proofs.Columns.{length_aligned}

-- a command has at most two digits
abbrev small : List Command → Bool
small [] = true
small (c ∷ cs) = ltb (command_row c).byte 100 && small cs

known_small : (cs : List Command) → small cs ≡ true → (b : ℕ) → known (command_in cs b) ≡ true → b < 100
known_small [] s b k = absurd (let z : ◌≡◌ {A = ℕ} 0 1 = cc in omega arith)
known_small (c ∷ cs) s b k =
    let h = and_true (ltb (command_row c).byte 100) (small cs) s in go (eqb (command_row c).byte b) refl h.0 (known_small cs h.1 b) k
  where
    go : (t : Bool) → eqb (command_row c).byte b ≡ t → ltb (command_row c).byte 100 ≡ true → (known (command_in cs b) ≡ true → b < 100)
        → known (cond t c (command_in cs b)) ≡ true → b < 100
    go true e l later k = omega (arith, eqb-true (command_row c).byte b e, ltb-true (command_row c).byte 100 l)
    go false e l later k = later k

pub command_few : (b : ℕ) → known (command_of b) ≡ true → length (decimal b) ≤ 2
unfolding command_of
command_few b k = let h : b < 10 ^ 2 = known_small commands refl b k in decimal_few 1 b h

pub offset_few : (at : ℕ) → at < 100000 → length (decimal at) ≤ 5
offset_few at h = let k : at < 10 ^ 5 = omega arith in decimal_few 4 at k

-- an operand has at most 20 characters
eight : (n : List ℕ) → Bytes n → length n ≡ 8 → bytes_value n < 2 ^ 64
eight n h e = let k : bytes_value n < 256 ^ 8 = rw e at (value_lt n h) in omega arith

time : (n : List ℕ) → Bytes n → length n ≡ 40 → bytes_value (drop 32 n) < 2 ^ 64
time n h e = eight (drop 32 n) (all_drop (λ b. b < 256) 32 n h) (length-drop 32 n ∙ omega arith)

pub operand_few : (c : Command) (n : List ℕ) → Bytes n → length n ≡ (command_row c).width → length (operand c n) ≤ 20
operand_few Command.Unknown n h e = omega arith
operand_few Command.IdxConst n h e = decimal-fits (bytes_value n) (eight n h e)
operand_few Command.CurrIdx n h e = omega arith
operand_few (Command.Index o) n h e = omega arith
operand_few Command.Const n h e = signed-fits (bytes_value n) (eight n h e)
operand_few Command.CurrInputIdx n h e = omega arith
operand_few (Command.Lookup l) n h e = omega arith
operand_few (Command.Binary o) n h e = omega arith
operand_few (Command.Unary o) n h e = omega arith
operand_few Command.PriceOracle1 n h e = decimal-fits (bytes_value (drop 32 n)) (time n h e)
operand_few Command.PriceOracle1W n h e = decimal-fits (bytes_value (drop 32 n)) (time n h e)
operand_few (Command.Compare o) n h e = omega arith

-- the line of a known command whose operand bytes are there
pub line_wide : (at : ℕ) (n : Instruction) → at < 100000 → known (command_of n.byte) ≡ true → Bytes n.operands
    → length n.operands ≡ (command_row (command_of n.byte)).width → length (command_line at n) ≡ 29
unfolding columns
line_wide at n h k b e =
    let o = length_aligned 5 (decimal at) (offset_few at h) in
    let c = length_aligned 2 (decimal n.byte) (command_few n.byte k) in
    let p = length_aligned 20 (operand (command_of n.byte) n.operands) (operand_few (command_of n.byte) n.operands b e) in
    simp length-append (rw (o, c, p) refl)

pub refusal-wide : (r : Refusal) → (numbered r).number ≤ 5 → length (refusal_line r) ≡ 29
unfolding refusal_line
refusal-wide r early =
    let h : (numbered r).number < 10 ^ 1 = omega arith in
    length_aligned 29 (decimal (numbered r).number) (omega (arith, decimal_few 0 (numbered r).number h))
