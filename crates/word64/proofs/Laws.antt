-- Equality of signed numbers by their bits.
use Prim.Native.Nat.{ℕ, suc, ◌-◌, ◌^◌}
use mathlib.Core.Path.{◌≡◌, refl, ap}
use mathlib.Core.Bool.{Bool, true, false}
use native.Mathlib.Omega.{arith}
use lib.Dec.{eqb}
use lib.IntN.{ℤ, pos, negsuc}
use borrow.Author.Tests.{eq-eqb, ne_eqb, eqb-true, eqb-false}
use mir.Syntax.{w64}
use mir.Val.{SFits, of_z}
use Rattle.word64.specs.Bits.{eq_z}

same : (p q r s : ℕ) → (p ≡ q → r ≡ s) → (r ≡ s → p ≡ q) → eqb p q ≡ eqb r s
same p q r s f g = go (eqb r s) refl
  where
    go : (t : Bool) → eqb r s ≡ t → eqb p q ≡ t
    go true e = eq-eqb p q (g (eqb-true r s e))
    go false e = ne_eqb p q (λ h. eqb-false r s e (f h))

pub eq_bits : (a b : ℤ) → SFits w64 a → SFits w64 b → eqb (of_z w64 a) (of_z w64 b) ≡ eq_z a b
eq_bits (pos m) (pos n) f g = refl
eq_bits (pos m) (negsuc n) f g = ne_eqb m (2 ^ 64 - suc n) (λ e. omega (arith, f.sfits, g.sfits))
eq_bits (negsuc m) (pos n) f g = ne_eqb (2 ^ 64 - suc m) n (λ e. omega (arith, f.sfits, g.sfits))
eq_bits (negsuc m) (negsuc n) f g =
    same (2 ^ 64 - suc m) (2 ^ 64 - suc n) m n (λ e. omega (arith, f.sfits, g.sfits)) (λ e. ap (λ (k : ℕ). 2 ^ 64 - suc k) e)
