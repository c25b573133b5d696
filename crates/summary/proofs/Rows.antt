-- A step by a command's row: what the tests say, and what the numbers come to.
use Prim.Native.Nat.{ℕ, ◌≤◌}
use mathlib.Core.Path.{◌≡◌, refl}
use mathlib.Core.Bool.{Bool, true, false, cond}
use native.Mathlib.Omega.{arith}
use borrow.Author.Tests.{ltb-false, ltb-true}
use lib.Dec.{ltb}
use Rattle.summary.specs.Step.{larger}

-- ---- tests

-- both numbers are no more than the larger one, which is one of them
pub larger_most : (a b : ℕ) → (a ≤ larger a b) × (b ≤ larger a b) × ((n : ℕ) → a ≤ n → b ≤ n → larger a b ≤ n)
larger_most a b = go (ltb a b) refl
  where
    go : (t : Bool) → ltb a b ≡ t → (a ≤ cond t b a) × (b ≤ cond t b a) × ((n : ℕ) → a ≤ n → b ≤ n → cond t b a ≤ n)
    go true e = (omega (arith, ltb-true a b e), omega arith, λ n p q. q)
    go false e = (omega arith, omega (arith, ltb-false a b e), λ n p q. p)
