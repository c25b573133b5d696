-- The bytes of the command at a place, without and with those of its mark.
use Rattle.std.proofs.Common.{◌≡◌, ◌≤◌, ◌+◌, ℕ, List, ◌++◌, Bool, ap, sym, ◌∙◌, length, length-append}
use Rattle.semantics.specs.Code.{command_row}
use Rattle.semantics.specs.Parse.{command_at, operand_bytes}
use Rattle.token_table.specs.TokenRows.{tokens_of}
use Rattle.script.specs.Script.{script}
use Rattle.script_writer.specs.declared.Piece.{Piece}
use Rattle.script_writer.specs.Pieces.{PieceOf, piece_length}
use Rattle.script_writer.proofs.Commands.{command-bytes, converted_bytes}
use Rattle.script_writer.proofs.Pieces.{piece_long}

module _ (code : List ℕ) (at : ℕ) where
  abbrev pub own : List ℕ
  own = script ((command_row (command_at code at)).tokens (operand_bytes (command_at code at) code (at + 1)))

  pub own_long : (p : Piece) → PieceOf (command_at code at) code (at + 1) p → length own ≡ piece_length p
  own_long p is = ap length (sym is.bytes) ∙ piece_long p code (at + 1) is.inside

  module _ (marked : Bool) where
    abbrev pub all : List ℕ
    all = script (tokens_of (command_at code at) (operand_bytes (command_at code at) code (at + 1)) marked)

    pub all_bytes : all ≡ own ++ converted_bytes marked
    all_bytes = command-bytes (command_at code at) (operand_bytes (command_at code at) code (at + 1)) marked

    pub room : (size : ℕ) → length all ≤ size → length own + length (converted_bytes marked) ≤ size
    room size h = rw (all_bytes, length-append own (converted_bytes marked)) at h
