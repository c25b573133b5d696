-- The shortest script number: how many bytes it has, and that no fewer hold the number with the sign clear.
use Prim.Native.Nat.{ℕ, zero, suc, ◌*◌, ◌-◌, ◌<◌, ◌≤◌, ◌^◌}
use mathlib.Core.Bool.{Bool, true, false, cond}
use mathlib.Core.Path.{◌≡◌, refl}
use native.Mathlib.Omega.{arith}
use borrow.Author.Tests.{eqb-false, eqb-true, ltb-false, ltb-true}
use lib.Dec.{eqb, ltb}
use Rattle.slices.specs.Bytes.{bytes_value}
use Rattle.slices.proofs.Bytes.{value_of-bytes}
use Rattle.script.specs.Script.{number_width, script_number}

-- what holds of each width holds of a number's
pub by_width : (P : ℕ → Type 0) (n : ℕ) → (n ≡ 0 → P 0) → (1 ≤ n → n < 2 ^ 7 → P 1) → (2 ^ 7 ≤ n → n < 2 ^ 15 → P 2)
    → (2 ^ 15 ≤ n → n < 2 ^ 23 → P 3) → (2 ^ 23 ≤ n → n < 2 ^ 31 → P 4) → (2 ^ 31 ≤ n → P 5) → P (number_width n)
unfolding number_width
by_width P n p₀ p₁ p₂ p₃ p₄ p₅ =
    go (eqb n 0) refl (ltb n (2 ^ 7)) refl (ltb n (2 ^ 15)) refl (ltb n (2 ^ 23)) refl (ltb n (2 ^ 31)) refl
  where
    go : (a : Bool) → eqb n 0 ≡ a → (b : Bool) → ltb n (2 ^ 7) ≡ b → (c : Bool) → ltb n (2 ^ 15) ≡ c → (d : Bool) → ltb n (2 ^ 23) ≡ d
        → (e : Bool) → ltb n (2 ^ 31) ≡ e
        → P (cond a 0 (cond b 1 (cond c 2 (cond d 3 (cond e 4 5)))))
    go true a b qb c qc d qd e qe = p₀ (eqb-true n 0 a)
    go false a true qb c qc d qd e qe = let z = eqb-false n 0 a in p₁ (omega arith) (ltb-true n (2 ^ 7) qb)
    go false a false qb true qc d qd e qe = p₂ (ltb-false n (2 ^ 7) qb) (ltb-true n (2 ^ 15) qc)
    go false a false qb false qc true qd e qe = p₃ (ltb-false n (2 ^ 15) qc) (ltb-true n (2 ^ 23) qd)
    go false a false qb false qc false qd true qe = p₄ (ltb-false n (2 ^ 23) qd) (ltb-true n (2 ^ 31) qe)
    go false a false qb false qc false qd false qe = p₅ (ltb-false n (2 ^ 31) qe)

pub width_most : (n : ℕ) → number_width n ≤ 5
width_most n =
    by_width (λ w. w ≤ 5) n (λ e. omega arith) (λ l h. omega arith) (λ l h. omega arith) (λ l h. omega arith) (λ l h. omega arith) (λ l. omega arith)

-- its bytes stand for the number, and the top bit is clear: so far a number of 39 bits goes
pub width_holds : (n : ℕ) → n < 2 ^ 39 → n < 2 ^ (8 * number_width n - 1)
width_holds n h =
    by_width (λ w. n < 2 ^ (8 * w - 1)) n (λ e. omega arith) (λ l f. f) (λ l f. f) (λ l f. f) (λ l f. f) (λ l. h)

pub number-value : (n : ℕ) → n < 2 ^ 39 → bytes_value (script_number n) ≡ n
number-value n h =
    value_of-bytes (number_width n) n
    (by_width (λ w. n < 256 ^ w) n (λ e. omega arith) (λ l f. omega arith) (λ l f. omega arith) (λ l f. omega arith) (λ l f. omega arith) (λ l. omega arith))

-- "the shortest": where l bytes hold it with the top bit clear, it has at most l
least : (n l : ℕ) → (1 ≤ n → 1 ≤ l) → (2 ^ 7 ≤ n → 2 ≤ l) → (2 ^ 15 ≤ n → 3 ≤ l) → (2 ^ 23 ≤ n → 4 ≤ l) → (2 ^ 31 ≤ n → 5 ≤ l) → number_width n ≤ l
least n l p₁ p₂ p₃ p₄ p₅ = by_width (λ w. w ≤ l) n (λ e. omega arith) (λ g h. p₁ g) (λ g h. p₂ g) (λ g h. p₃ g) (λ g h. p₄ g) p₅

pub width-least : (n l : ℕ) → n < 2 ^ (8 * l - 1) → number_width n ≤ l
width-least n zero h = least n 0 (λ g. omega arith) (λ g. omega arith) (λ g. omega arith) (λ g. omega arith) (λ g. omega arith)
width-least n (suc zero) h = least n 1 (λ g. omega arith) (λ g. omega arith) (λ g. omega arith) (λ g. omega arith) (λ g. omega arith)
width-least n (suc (suc zero)) h = least n 2 (λ g. omega arith) (λ g. omega arith) (λ g. omega arith) (λ g. omega arith) (λ g. omega arith)
width-least n (suc (suc (suc zero))) h = least n 3 (λ g. omega arith) (λ g. omega arith) (λ g. omega arith) (λ g. omega arith) (λ g. omega arith)
width-least n (suc (suc (suc (suc zero)))) h = least n 4 (λ g. omega arith) (λ g. omega arith) (λ g. omega arith) (λ g. omega arith) (λ g. omega arith)
width-least n (suc (suc (suc (suc (suc l))))) h = omega (arith, width_most n)
