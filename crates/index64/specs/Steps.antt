-- Index values, as request R-4 has them: "From now on index values are signed"; none is refusal 41.
use Rattle.std.specs.Prelude.{cond, ◌&&◌, ◌-◌, ◌^◌, eqb, ℤ, pos, neg_ℤ, nat_abs, ◌+ℤ◌, ◌-ℤ◌, ◌*ℤ◌, Option, Some, None}
use Rattle.std.specs.Int.Signed.{le_z}
use Rattle.num64.specs.Exact.{quotient}

-- "Each one .. must lie from −(2^31 − 1) to 2^31 − 1": the one range test of index values
abbrev pub in_range : ℤ → Option ℤ
in_range z = cond (le_z (neg_ℤ (pos (2 ^ 31 - 1))) z && le_z z (pos (2 ^ 31 - 1))) (Some z) None

unfoldable pub idx_add : ℤ → ℤ → Option ℤ
idx_add x y = in_range (x +ℤ y)

unfoldable pub idx_sub : ℤ → ℤ → Option ℤ
idx_sub x y = in_range (x -ℤ y)

unfoldable pub idx_mul : ℤ → ℤ → Option ℤ
idx_mul x y = in_range (x *ℤ y)

-- "index division is Euclidean. Refusal 41 is given when a value leaves that range or a divisor is 0": `quotient` is num64's
unfoldable pub idx_div : ℤ → ℤ → Option ℤ
idx_div x y = cond (eqb (nat_abs y) 0) None (in_range (quotient x y))

-- a signed 64-bit result as an index
abbrev pub within : Option ℤ → Option ℤ
within (Some z) = in_range z
within None = None
