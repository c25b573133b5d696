-- A signed 64-bit result is an index exactly where the whole number is.
use Rattle.std.proofs.Common.{Some, None}
use Prim.Native.Nat.{◌≤◌, ◌-◌, ◌^◌}
use mathlib.Core.Path.{◌≡◌, refl}
use mathlib.Core.Bool.{Bool, true, false, cond}
use native.Mathlib.Omega.{arith}
use lib.Dec.{ltb, eqb}
use lib.IntN.{ℤ, pos, negsuc, nat_abs, ◌+ℤ◌, ◌-ℤ◌, ◌*ℤ◌}
use lib.Signed.{mag}
use borrow.Author.Tests.{lt-leb, ltb-false}
use Rattle.num64.specs.Exact.{fitted, quotient, checked_add, checked_sub, checked_mul, checked_div}
use Rattle.index64.specs.Steps.{in_range, within, idx_add, idx_sub, idx_mul, idx_div}

-- what 64 bits don't hold is no index
outside : (z : ℤ) → 2 ^ 63 ≤ mag z → None ≡ in_range z
outside (pos n) h = rw (lt-leb n (2 ^ 31 - 1) (omega arith))
outside (negsuc n) h = rw (lt-leb n (2 ^ 31 - 2) (omega arith))

pub within-fitted : (z : ℤ) → within (fitted z) ≡ in_range z
within-fitted z = go (ltb (mag z) (2 ^ 63)) refl
  where
    go : (t : Bool) → ltb (mag z) (2 ^ 63) ≡ t → within (cond t (Some z) None) ≡ in_range z
    go true e = refl
    go false e = outside z (ltb-false (mag z) (2 ^ 63) e)

within-unless : (b : Bool) (z : ℤ) → within (cond b None (fitted z)) ≡ cond b None (in_range z)
within-unless true z = refl
within-unless false z = within-fitted z

-- each step is num64's operation, in range
module _ (x y : ℤ) where
  pub within-add : within (checked_add x y) ≡ idx_add x y
  unfolding checked_add idx_add
  within-add = within-fitted (x +ℤ y)

  pub within-sub : within (checked_sub x y) ≡ idx_sub x y
  unfolding checked_sub idx_sub
  within-sub = within-fitted (x -ℤ y)

  pub within-mul : within (checked_mul x y) ≡ idx_mul x y
  unfolding checked_mul idx_mul
  within-mul = within-fitted (x *ℤ y)

  pub within-div : within (checked_div x y) ≡ idx_div x y
  unfolding checked_div idx_div
  within-div = within-unless (eqb (nat_abs y) 0) (quotient x y)
