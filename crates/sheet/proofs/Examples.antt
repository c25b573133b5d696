-- Document 02's example and others: the sheet that the definition gives beside its text, and one computed proof.
use Prim.Native.Nat.{ℕ, ◌-◌, ◌^◌}
use mathlib.Core.Path.{◌≡◌, refl}
use mathlib.Core.List.{List, [], ◌∷◌, ◌++◌, map}
use lib.ListN.{replicate}
use Rattle.slices.specs.Bytes.{bytes_value, little_endian}
use Rattle.decimals.specs.Decimal.{decimal, digits, digits_in, signed}
use Rattle.semantics.specs.Check.{checked, condition, judged}
use Rattle.semantics.specs.Code.{command_of}
use Rattle.semantics.specs.Oracle.{oracle_rule, oracles, terminals}
use Rattle.semantics.specs.Parse.{instructions, parse}
use Rattle.semantics.specs.Token.{expr_form, form, idx_form}
use Rattle.sheet.specs.Sheet.{columns, lines, refusal_line, right_aligned, sheet}

abbrev constant : ℕ → List ℕ
constant bits = 16 ∷ little_endian 8 bits

abbrev blanks : ℕ → List ℕ
blanks n = replicate n 32

-- the characters "18446744073709551615" and "-9223372036854775808"
abbrev most : List ℕ
most = 49 ∷ 56 ∷ 52 ∷ 52 ∷ 54 ∷ 55 ∷ 52 ∷ 52 ∷ 48 ∷ 55 ∷ 51 ∷ 55 ∷ 48 ∷ 57 ∷ 53 ∷ 53 ∷ 49 ∷ 54 ∷ 49 ∷ 53 ∷ []

abbrev least : List ℕ
least = 45 ∷ 57 ∷ 50 ∷ 50 ∷ 51 ∷ 51 ∷ 55 ∷ 50 ∷ 48 ∷ 51 ∷ 54 ∷ 56 ∷ 53 ∷ 52 ∷ 55 ∷ 55 ∷ 53 ∷ 56 ∷ 48 ∷ 56 ∷ []

pub examples : List (List ℕ × List ℕ)
examples =
    -- document 02's own: 5 `Eq` −1
    (
      sheet (constant 5 ++ constant (2 ^ 64 - 1) ++ 48 ∷ []),
      blanks 4 ++ 48 ∷ 32 ∷ 49 ∷ 54 ∷ [] ++ blanks 20 ++ 53 ∷ 10 ∷ []
          ++ blanks 4 ++ 57 ∷ 32 ∷ 49 ∷ 54 ∷ [] ++ blanks 19 ++ 45 ∷ 49 ∷ 10 ∷ []
          ++ blanks 3 ++ 49 ∷ 56 ∷ 32 ∷ 52 ∷ 56 ∷ [] ++ blanks 21 ++ 10 ∷ [],
    ) ∷
    -- the longest operands: −2^63 and an index constant of 2^64 − 1
    (
      sheet (constant (2 ^ 63) ++ 1 ∷ little_endian 8 (2 ^ 64 - 1) ++ 18 ∷ 49 ∷ []),
      blanks 4 ++ 48 ∷ 32 ∷ 49 ∷ 54 ∷ 32 ∷ least ++ 10 ∷ []
          ++ blanks 4 ++ 57 ∷ 32 ∷ 32 ∷ 49 ∷ 32 ∷ most ++ 10 ∷ []
          ++ blanks 3 ++ 49 ∷ 56 ∷ 32 ∷ 49 ∷ 56 ∷ [] ++ blanks 21 ++ 10 ∷ []
          ++ blanks 3 ++ 49 ∷ 57 ∷ 32 ∷ 52 ∷ 57 ∷ [] ++ blanks 21 ++ 10 ∷ [],
    ) ∷
    -- a time of 2^64 − 1 after a key of 7s
    (
      sheet (32 ∷ replicate 32 7 ++ little_endian 8 (2 ^ 64 - 1) ++ 17 ∷ 52 ∷ []),
      blanks 4 ++ 48 ∷ 32 ∷ 51 ∷ 50 ∷ 32 ∷ most ++ 10 ∷ []
          ++ blanks 3 ++ 52 ∷ 49 ∷ 32 ∷ 49 ∷ 55 ∷ [] ++ blanks 21 ++ 10 ∷ []
          ++ blanks 3 ++ 52 ∷ 50 ∷ 32 ∷ 53 ∷ 50 ∷ [] ++ blanks 21 ++ 10 ∷ [],
    ) ∷
    -- no code is 2
    (sheet [], blanks 28 ++ 50 ∷ 10 ∷ []) ∷
    -- `PriceOracle1W` first is 4
    (sheet (33 ∷ replicate 40 0 ++ constant 5 ++ 48 ∷ []), blanks 28 ++ 52 ∷ 10 ∷ []) ∷
    -- `PriceOracle1` on the right is 5
    (sheet (constant 5 ++ 32 ∷ replicate 40 0 ++ 48 ∷ []), blanks 28 ++ 53 ∷ 10 ∷ []) ∷ []

pub examples_right : map (λ (e : List ℕ × List ℕ). e.0) examples ≡ map (λ (e : List ℕ × List ℕ). e.1) examples
unfolding examples little_endian bytes_value idx_form expr_form form command_of instructions parse terminals oracle_rule oracles judged condition checked decimal digits digits_in signed right_aligned columns refusal_line lines sheet
examples_right = refl
