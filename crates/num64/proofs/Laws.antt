-- What std answers where 64 bits may hold no result is `fitted` of the exact one.
use Rattle.std.proofs.Common.{◌≡◌, ◌^◌, Bool, true, false, cond, ltb, ℤ, refl, w64, SFits, ltb-true, lt-ltb}
use Rattle.std.specs.Prelude.{Option, Some, None, SomeIff}
use lib.Signed.{mag}
use Rattle.num64.specs.Exact.{fitted}

pub fitted_is : (z : ℤ) (r : Option ℤ) → SomeIff r (SFits w64 z) z → r ≡ fitted z
fitted_is z (Some x) p = rw (lt-ltb (mag z) (2 ^ 63) p.0.sfits, p.1) refl
fitted_is z None p = go (ltb (mag z) (2 ^ 63)) refl
  where
    go : (t : Bool) → ltb (mag z) (2 ^ 63) ≡ t → None ≡ cond t (Some z) None
    go true e = absurd (p (record { sfits = ltb-true (mag z) (2 ^ 63) e }))
    go false e = refl
