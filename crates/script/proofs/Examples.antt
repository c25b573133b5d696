-- The edges, each with the bytes that it is to have: one table, one computed proof.
use Prim.Native.Nat.{ℕ}
use mathlib.Core.Path.{◌≡◌, refl}
use mathlib.Core.List.{List, [], ◌∷◌, map}
use Rattle.slices.specs.Bytes.{little_endian}
use Rattle.semantics.specs.Operations.{bytes8, num, op}
use Rattle.script.specs.Script.{number_width, opcodes, push_int, script}

-- what the definition gives, and what it is to be
abbrev examples : List (List ℕ × List ℕ)
examples =
    -- 0, 1, 16, 17
    (script (num 0 ∷ num 1 ∷ num 16 ∷ num 17 ∷ []), 0x00 ∷ 0x51 ∷ 0x60 ∷ 0x01 ∷ 0x11 ∷ [])
    -- 127, 128, 255, 256: from 128 on a byte more has the sign
    ∷ (script (num 127 ∷ num 128 ∷ []), 0x01 ∷ 0x7f ∷ 0x02 ∷ 0x80 ∷ 0x00 ∷ [])
    ∷ (script (num 255 ∷ num 256 ∷ []), 0x02 ∷ 0xff ∷ 0x00 ∷ 0x02 ∷ 0x00 ∷ 0x01 ∷ [])
    -- 2^15 − 1, 2^15, 2^23 − 1, 2^23
    ∷ (script (num 32767 ∷ num 32768 ∷ []), 0x02 ∷ 0xff ∷ 0x7f ∷ 0x03 ∷ 0x00 ∷ 0x80 ∷ 0x00 ∷ [])
    ∷ (script (num 8388607 ∷ num 8388608 ∷ []), 0x03 ∷ 0xff ∷ 0xff ∷ 0x7f ∷ 0x04 ∷ 0x00 ∷ 0x00 ∷ 0x80 ∷ 0x00 ∷ [])
    -- 2^31 − 1, 2^31, 2^32 − 1
    ∷ (script (num 2147483647 ∷ []), 0x04 ∷ 0xff ∷ 0xff ∷ 0xff ∷ 0x7f ∷ [])
    ∷ (script (num 2147483648 ∷ []), 0x05 ∷ 0x00 ∷ 0x00 ∷ 0x00 ∷ 0x80 ∷ 0x00 ∷ [])
    ∷ (script (num 4294967295 ∷ []), 0x05 ∷ 0xff ∷ 0xff ∷ 0xff ∷ 0xff ∷ 0x00 ∷ [])
    -- Equal and Verify are one byte, and two where they do not follow each other so
    ∷ (script (op 14 ∷ op 15 ∷ op 15 ∷ op 14 ∷ []), 0x88 ∷ 0x69 ∷ 0x87 ∷ [])
    ∷ (script (op 14 ∷ op 14 ∷ op 15 ∷ []), 0x87 ∷ 0x88 ∷ [])
    -- 5 `Eq` 5
    ∷ (
      script (bytes8 5 ∷ bytes8 5 ∷ op 14 ∷ []),
      0x08 ∷ 0x05 ∷ 0x00 ∷ 0x00 ∷ 0x00 ∷ 0x00 ∷ 0x00 ∷ 0x00 ∷ 0x00 ∷ 0x08 ∷ 0x05 ∷ 0x00 ∷ 0x00 ∷ 0x00 ∷ 0x00 ∷ 0x00 ∷ 0x00 ∷ 0x00 ∷ 0x87 ∷ [],
    )
    ∷ []

pub examples_right : map (λ e. e.0) examples ≡ map (λ e. e.1) examples
unfolding script push_int number_width little_endian opcodes
examples_right = refl
