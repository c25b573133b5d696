-- Decimal digits: one more, how many there are, and that they stand for the number.
use Prim.Native.Nat.{ℕ, zero, suc, ◌+◌, ◌-◌, ◌*◌, ◌/◌, ◌^◌, ◌≤◌, ◌<◌}
use mathlib.Core.Bool.{Bool, true, false}
use mathlib.Core.Path.{◌≡◌, refl, sym, ap, ◌∙◌}
use mathlib.Core.List.{List, [], ◌∷◌, ◌++◌}
use native.Mathlib.Nat.{pow-suc}
use native.Mathlib.Omega.{arith}
use borrow.Author.Tests.{eqb-false, eqb-true, ltb-false, ltb-true}
use lib.Dec.{eqb, ltb}
use lib.IntN.{negsuc}
use lib.ListN.{length, length-append}
use mir.Syntax.{w64}
use mir.Val.{to_z}
use mir.Facts.{to_z-neg, to_z_pos}
use Rattle.slices.specs.Bytes.{All}
use Rattle.slices.proofs.Bytes.{all_join}
use Rattle.word64.specs.Bits.{signed_of}
use Rattle.decimals.specs.Decimal.{decimal, digit, digits, digits_in, hyphen, signed}

-- a number is 0 or not
if_zero : {P : Type 0} (n : ℕ) → (n ≡ 0 → P) → ((n ≡ 0 → ⊥) → P) → P
if_zero {P} n at_zero past = go (eqb n 0) refl
  where
    go : (b : Bool) → eqb n 0 ≡ b → P
    go true e = at_zero (eqb-true n 0 e)
    go false e = past (eqb-false n 0 e)

none : (k n : ℕ) → n ≡ 0 → digits_in k n ≡ []
unfolding digits_in
none zero n e = refl
none (suc k) zero e = refl
none (suc k) (suc n) e = absurd (omega arith)

some : (k n : ℕ) → (n ≡ 0 → ⊥) → digits_in (suc k) n ≡ digits_in k (n / 10) ++ digit n ∷ []
unfolding digits_in
some k zero h = absurd (h refl)
some k (suc n) h = refl

-- any bound on their number that is large enough
enough : (k j n : ℕ) → n ≤ k → n ≤ j → digits_in k n ≡ digits_in j n
enough zero j n h l = let z : n ≡ 0 = omega arith in rw (none zero n z, none j n z)
enough (suc k) zero n h l = let z : n ≡ 0 = omega arith in rw (none (suc k) n z, none zero n z)
enough (suc k) (suc j) n h l =
    if_zero n (λ z. rw (none (suc k) n z, none (suc j) n z)) λ z.
    rw (some k n z, some j n z, enough k j (n / 10) (omega arith) (omega arith))

pub digits_none : (n : ℕ) → n ≡ 0 → digits n ≡ []
unfolding digits
digits_none n e = none n n e

pub digits_some : (n : ℕ) → (n ≡ 0 → ⊥) → digits n ≡ digits (n / 10) ++ digit n ∷ []
unfolding digits
digits_some zero h = absurd (h refl)
digits_some (suc n) h =
    some n (suc n) h ∙ ap (λ (ds : List ℕ). ds ++ digit (suc n) ∷ []) (enough n (suc n / 10) (suc n / 10) (omega arith) (omega arith))

-- below 10^k there are at most k of them
digits_few : (k n : ℕ) → n < 10 ^ k → length (digits n) ≤ k
digits_few zero n h = rw (digits_none n (omega arith)) (omega arith)
digits_few (suc k) n h =
    if_zero n (λ z. rw (digits_none n z) (omega arith)) λ z.
    rw (digits_some n z) (simp length-append (omega (arith, digits_few k (n / 10) (omega (arith, rw pow-suc at h)))))

pub decimal_few : (k n : ℕ) → n < 10 ^ suc k → length (decimal n) ≤ suc k
unfolding decimal
decimal_few k n h = simp length-append (omega (arith, digits_few k (n / 10) (omega (arith, rw pow-suc at h))))

-- ---- the number that digits stand for

abbrev pub value_from : ℕ → List ℕ → ℕ
value_from v [] = v
value_from v (d ∷ ds) = value_from (10 * v + (d - 48)) ds

value-append : (v : ℕ) (ds : List ℕ) (d : ℕ) → value_from v (ds ++ d ∷ []) ≡ 10 * value_from v ds + (d - 48)
value-append v [] d = refl
value-append v (e ∷ ds) d = value-append (10 * v + (e - 48)) ds d

digits_value : (k n : ℕ) → n ≤ k → value_from 0 (digits n) ≡ n
digits_value zero n h = let z : n ≡ 0 = omega arith in rw (digits_none n z) (omega arith)
digits_value (suc k) n h =
    if_zero n (λ z. rw (digits_none n z) (omega arith)) λ z.
    rw (digits_some n z, value-append 0 (digits (n / 10)) (digit n), digits_value k (n / 10) (omega arith)) (omega arith)

-- a number's text stands for the number
pub decimal-value : (n : ℕ) → value_from 0 (decimal n) ≡ n
unfolding decimal
decimal-value n = rw (value-append 0 (digits (n / 10)) (digit n), digits_value (n / 10) (n / 10) (omega arith)) (omega arith)

-- ---- digits, and no zero in front

abbrev IsDigit : ℕ → Type 0
IsDigit d = (48 ≤ d) × (d ≤ 57)

digits_are : (k n : ℕ) → n ≤ k → All IsDigit (digits n)
digits_are zero n h = let z : n ≡ 0 = omega arith in rw (digits_none n z) tt
digits_are (suc k) n h =
    if_zero n (λ z. rw (digits_none n z) tt) λ z.
    rw (digits_some n z) (all_join IsDigit (digits (n / 10)) (digit n ∷ []) (digits_are k (n / 10) (omega arith)) ((omega arith, omega arith), tt))

pub decimal-digits : (n : ℕ) → All IsDigit (decimal n)
unfolding decimal
decimal-digits n = all_join IsDigit (digits (n / 10)) (digit n ∷ []) (digits_are (n / 10) (n / 10) (omega arith)) ((omega arith, omega arith), tt)

abbrev Leads : List ℕ → Type 0
Leads [] = Unit {0}
Leads (d ∷ ds) = 48 < d

leads_more : (ds : List ℕ) (d : ℕ) → Leads ds → (ds ≡ [] → 48 < d) → Leads (ds ++ d ∷ [])
leads_more [] d l h = h refl
leads_more (e ∷ ds) d l h = l

digits-lead : (k n : ℕ) → n ≤ k → Leads (digits n)
digits-lead zero n h = let z : n ≡ 0 = omega arith in rw (digits_none n z) tt
digits-lead (suc k) n h =
    if_zero n (λ z. rw (digits_none n z) tt) λ z.
    rw (digits_some n z) (leads_more (digits (n / 10)) (digit n) (digits-lead k (n / 10) (omega arith)) (last z))
  where
    -- of one digit there is only the number itself
    last : (n ≡ 0 → ⊥) → digits (n / 10) ≡ [] → 48 < digit n
    last z e = let q : 0 ≡ n / 10 = rw e at (digits_value (n / 10) (n / 10) (omega arith)) in omega arith

-- other than 0 itself, no number begins with a 0
pub decimal-lead : (n : ℕ) → (n ≡ 0 → ⊥) → Leads (decimal n)
unfolding decimal
decimal-lead n h = rw (← digits_some n h) (digits-lead n n (omega arith))

-- ---- signed numbers, by their bits

pub signed_pos : (bits : ℕ) → bits < 2 ^ 63 → signed (signed_of bits) ≡ decimal bits
unfolding signed
signed_pos bits h = ap signed (to_z_pos w64 {n = bits} h)

pub signed_neg : (bits : ℕ) → 2 ^ 63 ≤ bits → bits < 2 ^ 64 → signed (signed_of bits) ≡ hyphen ∷ decimal (2 ^ 64 - 1 - bits + 1)
unfolding signed
signed_neg bits l h =
    let e : 2 ^ 64 - suc (2 ^ 64 - 1 - bits) ≡ bits = omega arith in
    let t : to_z w64 bits ≡ negsuc (2 ^ 64 - 1 - bits) = ap (to_z w64) (sym e) ∙ to_z-neg w64 (2 ^ 64 - 1 - bits) (omega arith) in
    let s : suc (2 ^ 64 - 1 - bits) ≡ 2 ^ 64 - 1 - bits + 1 = omega arith in
    ap signed t ∙ ap (λ (n : ℕ). hyphen ∷ decimal n) s

-- 64 bits hold no number of more than 20 characters
pub decimal-fits : (n : ℕ) → n < 2 ^ 64 → length (decimal n) ≤ 20
decimal-fits n h = let k : n < 10 ^ 20 = omega arith in decimal_few 19 n k

pub signed-fits : (bits : ℕ) → bits < 2 ^ 64 → length (signed (signed_of bits)) ≤ 20
signed-fits bits h = go (ltb bits (2 ^ 63)) refl
  where
    go : (t : Bool) → ltb bits (2 ^ 63) ≡ t → length (signed (signed_of bits)) ≤ 20
    go true e = rw (signed_pos bits (ltb-true bits (2 ^ 63) e)) (decimal-fits bits h)
    go false e =
        let k : 2 ^ 64 - 1 - bits + 1 < 10 ^ 19 = omega (arith, ltb-false bits (2 ^ 63) e) in
        rw (signed_neg bits (ltb-false bits (2 ^ 63) e) h) (omega (arith, decimal_few 18 (2 ^ 64 - 1 - bits + 1) k))
