-- A command's piece: a row of its bytes, a constant's, or an oracle terminal's.
use Rattle.std.proofs.Common.{Bor}
use Prim.Native.Nat.{ℕ, ◌+◌, ◌≤◌}
use mathlib.Core.Path.{◌≡◌, refl, ap, ◌∙◌}
use mathlib.Core.List.{List, [], ◌∷◌, ◌++◌, append_assoc, append-nil}
use native.Mathlib.Omega.{arith}
use lib.ListN.{length, drop, take, length-append}
use Rattle.slices.specs.Bytes.{bytes_value, little_endian}
use Rattle.slices.proofs.Bytes.{length-little_endian, part_length}
use Rattle.semantics.specs.declared.Command.{Command}
use Rattle.semantics.specs.Code.{command_row}
use Rattle.semantics.specs.Operations.{bytes8, bytes32, num}
use Rattle.semantics.specs.Parse.{operand_bytes}
use Rattle.semantics.specs.Token.{oracle_form, oracle_w_form}
use Rattle.semantics.proofs.Machine.{key_at_lem}
use Rattle.script.specs.Script.{opcodes, script}
use Rattle.script_writer.specs.declared.Piece.{Piece}
use Rattle.script_writer.specs.Pieces.{PieceOf, piece_at, piece_length, piece_width}

module _ (c : Command) (code : List ℕ) (at : ℕ) (inside : at + (command_row c).width ≤ length code) where
  pub row_piece : (row : Bor (List ℕ)) → row.now ≡ script ((command_row c).tokens (operand_bytes c code at)) → length row.now ≤ 7 → PieceOf c code at (Piece.Row row)
  row_piece row e few = record { bytes = e; inside = omega (arith, inside); few = omega arith }

  pub int_piece : (v : ℕ) → script (num v ∷ []) ≡ script ((command_row c).tokens (operand_bytes c code at)) → length (script (num v ∷ [])) ≤ 6 → PieceOf c code at (Piece.Int v)
  int_piece v e few = record { bytes = e; inside = omega (arith, inside); few = omega arith }

-- ---- a constant and an oracle terminal, whose rows are not asked

pub constant_long : (n : ℕ) → length (script (bytes8 n ∷ [])) ≡ 9
unfolding script
constant_long n = simp length-append (omega (arith, length-little_endian 8 n))

pub key-bytes_long : (key : List ℕ) → length key ≡ 32 → length (script (bytes32 key ∷ [])) ≡ 33
unfolding script
key-bytes_long key e = simp length-append (omega (arith, e))

pub oracle_long : (key : List ℕ) (time : ℕ) → length key ≡ 32 → length (script (oracle_form key time)) ≡ 50
unfolding script
oracle_long key time e = simp length-append (omega (arith, length-little_endian 8 time, e))

oracle-w_long : (key : List ℕ) (time : ℕ) → length key ≡ 32 → length (script (oracle_w_form key time)) ≡ 53
unfolding script
oracle-w_long key time e = simp length-append (omega (arith, length-little_endian 8 time, e))

-- ---- how many bytes a piece has

pub piece_long : (p : Piece) (code : List ℕ) (at : ℕ) → at + piece_width p ≤ length code → length (piece_at p code at) ≡ piece_length p
piece_long p code at =
    elim p as (λ p. at + piece_width p ≤ length code → length (piece_at p code at) ≡ piece_length p) [
      | Piece.Row row ↦ λ h. refl
      | Piece.Int v ↦ λ h. refl
      | Piece.Constant ↦ λ h. constant_long (bytes_value (take 8 (drop at code)))
      | Piece.Oracle ↦ λ h. oracle_long (take 32 (take 40 (drop at code))) (bytes_value (drop 32 (take 40 (drop at code)))) (key_long h)
      | Piece.OracleW ↦ λ h. oracle-w_long (take 32 (take 40 (drop at code))) (bytes_value (drop 32 (take 40 (drop at code)))) (key_long h)
    ]
  where
    key_long : at + 40 ≤ length code → length (take 32 (take 40 (drop at code))) ≡ 32
    key_long h = ap length (key_at_lem code at) ∙ part_length code at 32 (omega arith)

-- ---- an oracle terminal's bytes, in the order in which they are pushed

nested : (a t b u c : List ℕ) → a ++ (t ++ []) ++ b ++ (u ++ []) ++ c ≡ a ++ (t ++ (b ++ (u ++ c)))
nested a t b u c = simp (append_assoc, append-nil)

pub oracle-bytes : (key : List ℕ) (time : ℕ)
    → (0x6e ∷ 0x6b ∷ []) ++ script (bytes8 time ∷ []) ++ (0xdf ∷ 0x69 ∷ 0x7e ∷ 0xa8 ∷ []) ++ script (bytes32 key ∷ []) ++ (0xc2 ∷ 0x6c ∷ [])
    ≡ script (oracle_form key time)
unfolding script opcodes
oracle-bytes key time = nested (0x6e ∷ 0x6b ∷ []) (8 ∷ little_endian 8 time) (0xdf ∷ 0x69 ∷ 0x7e ∷ 0xa8 ∷ []) (32 ∷ key) (0xc2 ∷ 0x6c ∷ [])

pub oracle-w-bytes : (key : List ℕ) (time : ℕ) → (0x6b ∷ []) ++ script (oracle_form key time) ++ (0x6c ∷ 0x7c ∷ []) ≡ script (oracle_w_form key time)
unfolding script opcodes
oracle-w-bytes key time = around (0x6e ∷ 0x6b ∷ []) (8 ∷ little_endian 8 time) (0xdf ∷ 0x69 ∷ 0x7e ∷ 0xa8 ∷ []) (32 ∷ key) (0xc2 ∷ 0x6c ∷ []) (0x6c ∷ 0x7c ∷ [])
  where
    around : (a t b u c d : List ℕ) → 0x6b ∷ (a ++ (t ++ (b ++ (u ++ c)))) ++ d ≡ 0x6b ∷ (a ++ (t ++ (b ++ (u ++ (c ++ d)))))
    around a t b u c d = simp append_assoc
