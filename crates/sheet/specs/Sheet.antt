-- R-10: the sheet of condition code, as bytes. "Off the unit, a program reads a code from standard input and prints one line of 29 characters per command, then a
-- line feed".
use Rattle.std.specs.Prelude.{ℕ, ◌+◌, ◌-◌, List, [], ◌∷◌, ◌++◌, length, drop, replicate, Result, Ok, Err}
use Rattle.slices.specs.Bytes.{bytes_value}
use Rattle.word64.specs.Bits.{signed_of}
use Rattle.decimals.specs.Decimal.{decimal, signed}
use Rattle.semantics.specs.declared.Checked.{Checked}
use Rattle.semantics.specs.declared.Command.{Command}
use Rattle.semantics.specs.declared.Refusal.{Refusal}
use Rattle.semantics.specs.Check.{checked}
use Rattle.semantics.specs.Code.{command_of}
use Rattle.semantics.specs.Parse.{Instruction, instructions}
use Rattle.semantics.specs.Refusals.{numbered}

abbrev pub line_feed : ℕ
line_feed = 10

abbrev pub blank : ℕ
blank = 32

-- text, "right-aligned in" so many characters
unfoldable pub right_aligned : ℕ → List ℕ → List ℕ
right_aligned width text = replicate (width - length text) blank ++ text

-- "The operand is the constant, or an oracle's time, unsigned; otherwise blanks": of a command with its operand bytes. A `Const` is a signed number; an oracle's
-- time comes after its key of 32 bytes
abbrev pub operand : Command → List ℕ → List ℕ
operand Command.IdxConst n = decimal (bytes_value n)
operand Command.Const n = signed (signed_of (bytes_value n))
operand Command.PriceOracle1 n = decimal (bytes_value (drop 32 n))
operand Command.PriceOracle1W n = decimal (bytes_value (drop 32 n))
operand Command.Unknown n = []
operand Command.CurrIdx n = []
operand (Command.Index o) n = []
operand Command.CurrInputIdx n = []
operand (Command.Lookup l) n = []
operand (Command.Binary o) n = []
operand (Command.Unary o) n = []
operand (Command.Compare o) n = []

-- "offset right-aligned in 5, a blank, command right-aligned in 2, a blank, operand right-aligned in 20"
unfoldable pub columns : ℕ → ℕ → List ℕ → List ℕ
columns offset command text = right_aligned 5 (decimal offset) ++ blank ∷ [] ++ right_aligned 2 (decimal command) ++ blank ∷ [] ++ right_aligned 20 text

abbrev pub command_line : ℕ → Instruction → List ℕ
command_line offset n = columns offset n.byte (operand (command_of n.byte) n.operands)

-- "one line .. per command"; the next command stands after the operand bytes of this one
abbrev pub command_lines : ℕ → List Instruction → List (List ℕ)
command_lines offset [] = []
command_lines offset (n ∷ ns) = command_line offset n ∷ command_lines (offset + 1 + length n.operands) ns

-- "A refused code prints one such line: its number, right-aligned in 29"
unfoldable pub refusal_line : Refusal → List ℕ
refusal_line r = right_aligned 29 (decimal (numbered r).number)

abbrev pub lines_of : Result Checked Refusal → List ℕ → List (List ℕ)
lines_of (Err r) c = refusal_line r ∷ []
lines_of (Ok a) c = command_lines 0 (instructions c)

unfoldable pub lines : List ℕ → List (List ℕ)
lines c = lines_of (checked c) c

-- each line, "then a line feed"
abbrev pub printed : List (List ℕ) → List ℕ
printed [] = []
printed (l ∷ ls) = l ++ line_feed ∷ [] ++ printed ls

unfoldable pub sheet : List ℕ → List ℕ
sheet c = printed (lines c)
