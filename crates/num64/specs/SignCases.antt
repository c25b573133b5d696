-- Request R-7: "Where 30 and 31 don't fall, each case is proved by itself to give a = b × q + r and 0 ≤ r < |b| on whole numbers."
-- For the code of division alone: no promise of a public function rests on it.
use Rattle.std.specs.Prelude.{◌≡◌, ◌-◌, ◌^◌, Bool, ◌&&◌, ◌||◌, ℤ, pos, negsuc, ◌+ℤ◌, ◌*ℤ◌, ◌≤ℤ◌, ◌<ℤ◌, unsigned_abs}
use Rattle.word64.specs.Bits.{eq_z}

-- where 30 and 31 fall: by 0, and -2^63 by -1
abbrev pub no_quotient : ℤ → ℤ → Bool
no_quotient a b = eq_z b (pos 0) || (eq_z b (negsuc 0) && eq_z a (negsuc (2 ^ 63 - 1)))

-- a = b × q + r and 0 ≤ r < |b|
pub record Euclidean (a b q r : ℤ) : Type 0 where
  pub divided : a ≡ b *ℤ q +ℤ r
  pub not_negative : pos 0 ≤ℤ r
  pub below : r <ℤ pos (unsigned_abs b)
