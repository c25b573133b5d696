-- 64 bits as a signed number in two's complement, operations on bits, and equality of whole numbers; their orders are `lt_z` and `le_z` of lib.Signed.
use Rattle.std.specs.Prelude.{ℕ, ◌-◌, ◌^◌, Bool, false, eqb, ℤ, pos, negsuc}
use Rattle.std.specs.Int.Bits.{bit_and, bit_or, bit_xor}
use Rattle.std.specs.Int.{w64}
use Rattle.std.proofs.Common.{to_z, of_z}

-- 64 bits as a signed number: n below 2^63, else n - 2^64
abbrev pub signed_of : ℕ → ℤ
signed_of n = to_z w64 n

-- and back
abbrev pub bits_of : ℤ → ℕ
bits_of a = of_z w64 a

abbrev pub and_of : ℤ → ℤ → ℤ
and_of a b = signed_of (bit_and (bits_of a) (bits_of b))

abbrev pub or_of : ℤ → ℤ → ℤ
or_of a b = signed_of (bit_or (bits_of a) (bits_of b))

abbrev pub xor_of : ℤ → ℤ → ℤ
xor_of a b = signed_of (bit_xor (bits_of a) (bits_of b))

abbrev pub invert_of : ℤ → ℤ
invert_of a = signed_of (2 ^ 64 - 1 - bits_of a)

abbrev pub eq_z : ℤ → ℤ → Bool
eq_z (pos a) (pos b) = eqb a b
eq_z (pos a) (negsuc b) = false
eq_z (negsuc a) (pos b) = false
eq_z (negsuc a) (negsuc b) = eqb a b
