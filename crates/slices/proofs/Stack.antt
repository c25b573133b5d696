-- Laws of `stack_of`: its length, its first elements, and that it goes by the first n elements alone.
use Prim.Native.Nat.{ℕ, zero, suc, ◌-◌, ◌≤◌, ◌<◌}
use mathlib.Core.Path.{◌≡◌, refl, ap, ap₂}
use mathlib.Core.List.{◌∷◌}
use native.Mathlib.Omega.{arith}
use lib.ListN.{length}
use Rattle.slices.specs.Stack.{stack_of}

module _ {A : Type 0} where
  pub length_stack : (f : ℕ → A) (n : ℕ) → length (stack_of f n) ≡ n
  length_stack f zero = refl
  length_stack f (suc n) = ap suc (length_stack f n)

  pub stack_same : (f g : ℕ → A) (n : ℕ) → ((k : ℕ) → k < n → f k ≡ g k) → stack_of f n ≡ stack_of g n
  stack_same f g zero h = refl
  stack_same f g (suc n) h = ap₂ ◌∷◌ (h n (omega arith)) (stack_same f g n λ k l. h k (omega arith))

  pub stack_one : (f : ℕ → A) (n : ℕ) → 1 ≤ n → stack_of f n ≡ f (n - 1) ∷ stack_of f (n - 1)
  stack_one f zero h = absurd (omega arith)
  stack_one f (suc n) h = let e : suc n - 1 ≡ n = omega arith in rw e

  pub stack_two : (f : ℕ → A) (n : ℕ) → 2 ≤ n → stack_of f n ≡ f (n - 1) ∷ f (n - 2) ∷ stack_of f (n - 2)
  stack_two f zero h = absurd (omega arith)
  stack_two f (suc zero) h = absurd (omega arith)
  stack_two f (suc (suc n)) h =
      let e : suc (suc n) - 2 ≡ n = omega arith in
      let g : suc (suc n) - 1 ≡ suc n = omega arith in
      rw (e, g)
