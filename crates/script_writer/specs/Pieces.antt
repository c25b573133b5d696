-- The bytes that a command writes: a few that a row has, a constant's, or an oracle terminal's.
use Rattle.std.specs.Prelude.{ℕ, ◌+◌, ◌≤◌, ◌≡◌, List, [], ◌∷◌, length, drop, take}
use Rattle.slices.specs.Bytes.{bytes_value}
use Rattle.semantics.specs.declared.Command.{Command}
use Rattle.semantics.specs.Code.{command_row}
use Rattle.semantics.specs.Operations.{bytes8, num}
use Rattle.semantics.specs.Parse.{operand_bytes}
use Rattle.semantics.specs.Token.{oracle_form, oracle_w_form}
use Rattle.script.specs.Script.{script}
use Rattle.script_writer.specs.declared.Piece.{Piece}

-- with a command's operand bytes
abbrev pub bytes_by : Piece → List ℕ → List ℕ
bytes_by (Piece.Row row) n = row.now
bytes_by (Piece.Int v) n = script (num v ∷ [])
bytes_by Piece.Constant n = script (bytes8 (bytes_value n) ∷ [])
bytes_by Piece.Oracle n = script (oracle_form (take 32 n) (bytes_value (drop 32 n)))
bytes_by Piece.OracleW n = script (oracle_w_form (take 32 n) (bytes_value (drop 32 n)))

-- how many they are
abbrev pub piece_length : Piece → ℕ
piece_length (Piece.Row row) = length row.now
piece_length (Piece.Int v) = length (script (num v ∷ []))
piece_length Piece.Constant = 9
piece_length Piece.Oracle = 50
piece_length Piece.OracleW = 53

-- and of how many operand bytes
abbrev pub piece_width : Piece → ℕ
piece_width (Piece.Row row) = 0
piece_width (Piece.Int v) = 0
piece_width Piece.Constant = 8
piece_width Piece.Oracle = 40
piece_width Piece.OracleW = 40

-- the bytes of a piece, with the operand bytes that stand at a place of code
abbrev pub piece_at : Piece → List ℕ → ℕ → List ℕ
piece_at p code at = bytes_by p (take (piece_width p) (drop at code))

-- the piece is that of a command whose operand bytes stand there
pub record PieceOf (c : Command) (code : List ℕ) (at : ℕ) (p : Piece) : Type 0 where
  pub bytes : piece_at p code at ≡ script ((command_row c).tokens (operand_bytes c code at))
  pub inside : at + piece_width p ≤ length code
  pub few : piece_length p ≤ 53

-- the opcode is all that a command writes
abbrev pub SingleOpcode : Command → ℕ → Type 0
SingleOpcode c opcode = ((command_row c).width ≡ 0) × ((n : List ℕ) → script ((command_row c).tokens n) ≡ opcode ∷ [])
