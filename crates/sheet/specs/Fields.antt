-- What the contracts cite beside the sheet: what stands in a column, and the line of the command at a position.
use Rattle.std.specs.Prelude.{ℕ, ◌≤◌, ◌<◌, true, ◌≡◌, List, [], ◌∷◌, ◌++◌, length, get_or}
use Rattle.word64.specs.Bits.{signed_of}
use Rattle.decimals.specs.Decimal.{decimal, signed}
use Rattle.semantics.specs.Code.{known}
use Rattle.semantics.specs.Parse.{Instruction, after, command_at, instructions, operands_at}
use Rattle.sheet.specs.Sheet.{command_line, command_lines, line_feed, printed}
use Rattle.sheet.specs.declared.Field.{Field}

abbrev pub text_of : Field → List ℕ
text_of Field.Blank = []
text_of (Field.Unsigned n) = decimal n
text_of (Field.Signed bits) = signed (signed_of bits)

abbrev pub instruction_at : List ℕ → ℕ → Instruction
instruction_at code at = record { byte = get_or code at 0; operands = operands_at code at }

-- with the line feed
abbrev pub line_at : List ℕ → ℕ → List ℕ
line_at code at = command_line at (instruction_at code at) ++ line_feed ∷ []

-- the command at a position is known, its operand bytes are there, and its offset has at most five digits
pub record Whole (code : List ℕ) (at : ℕ) : Type 0 where
  pub known : known (command_at code at) ≡ true
  pub operands : after code at ≤ length code
  pub near : at < 100000

-- the lines of all commands
abbrev pub all_lines : List ℕ → List ℕ
all_lines code = printed (command_lines 0 (instructions code))
