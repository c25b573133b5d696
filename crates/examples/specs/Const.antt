-- "One byte of command, operands of fixed width", "16 `Const` (8 bytes, two's complement)".
use Rattle.std.specs.Prelude.{ℕ, ◌+◌, cond, List, ◌∷◌, ◌++◌, leb, ℤ, length, take, drop}
use Rattle.slices.specs.Bytes.{little_endian}
use Rattle.word64.specs.Bits.{bits_of}

-- code with the nine bytes of a `Const` at a place; as it was, where they do not stand there
unfoldable pub with_const : List ℕ → ℕ → ℤ → List ℕ
with_const code at number =
    cond (leb (at + 9) (length code)) (take at code ++ 16 ∷ little_endian 8 (bits_of number) ++ drop (at + 9) code) code
