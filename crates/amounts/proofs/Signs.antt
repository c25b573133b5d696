-- An index below 0, and one that is not.
use Rattle.std.proofs.Common.{Err}
use Prim.Native.Nat.{ℕ}
use mathlib.Core.Bool.{true, false}
use mathlib.Core.Path.{◌≡◌, refl}
use native.Mathlib.Omega.{arith}
use borrow.Author.Tests.{ltb-true}
use lib.IntN.{ℤ, pos, negsuc}
use lib.Signed.{lt_z}
use Rattle.word64.specs.Bits.{bits_of}
use Rattle.semantics.specs.declared.AmountList.{AmountList}
use Rattle.semantics.specs.declared.Refusal.{Refusal}
use Rattle.semantics.specs.Evaluation.{Amounts, amount}

pub negative : (z : ℤ) → lt_z z (pos 0) ≡ true → (a : Amounts) (l : AmountList) → Err Refusal.NegativeIndex ≡ amount a l z
unfolding amount
negative (pos n) h a l = absurd (omega (arith, ltb-true n 0 h))
negative (negsuc n) h a l = refl

pub not_negative : (z : ℤ) → lt_z z (pos 0) ≡ false → z ≡ pos (bits_of z)
not_negative (pos n) h = refl
not_negative (negsuc n) h = let e : ◌≡◌ {A = ℕ} 0 1 = cc in absurd (omega arith)
