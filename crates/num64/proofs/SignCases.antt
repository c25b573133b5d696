-- Division towards zero, and Euclid's in one step from it. Where 30 and 31 don't fall, both fit in 64 bits.
use Rattle.std.proofs.Common.{◌≡◌, ℕ, zero, suc, ◌+◌, ◌-◌, ◌*◌, ◌/◌, ◌%◌, ◌^◌, ◌<◌, ◌≤◌, Bool, true, false, not, T, eqb, ltb, ℤ, pos, negsuc, ◌+ℤ◌, ◌-ℤ◌, ◌*ℤ◌, neg_ℤ, nat_abs, ◌≤ℤ◌, ◌<ℤ◌, sym, refl, ap, ◌∙◌, subst, true≢false, suc-le-suc, zero-le, lt_of_le_of_lt, mod-lt, zero-lt-suc, mul-zero, div-le_self, arith, le→leb, ltb→lt, lt→ltb, to_z-of_z, w64, SFits, to_z, of_z, ltb-false, ltb-true, le-ltb, lt-ltb, ne_eqb, eqb-true, Some, None}
use mathlib.Core.Bool.{false≢true, and-false, or-false}
use native.Mathlib.Nat.{div-add-mod, div-lt_self}
use borrow.Author.Tests.{eqb-false}
use lib.IntN.{pred_ℤ, suc_ℤ, neg_ℤ-+ℤ, +ℤ_assoc, +ℤ_comm, *ℤ_comm, -ℤ_one, +ℤ_one, pred_ℤ-*ℤ, suc_ℤ-*ℤ, -ℤ-+ℤ_cancel, +ℤ-neg_ℤ_cancel}
use lib.Signed.{mag, mag_rem, nat_abs-le, lt_z, quot_z, rem_z, ≤ℤ_refl, lt_z_yes, lt_z_no}
use Rattle.num64.specs.Exact.{quotient, remainder, checked_div, checked_rem}
use Rattle.num64.specs.SignCases.{Euclidean, no_quotient}
use Rattle.num64.proofs.Euclid.{rest_lt, both, euclid_only, only_least}

-- ---- division towards zero

neg_sum : (x t m : ℕ) → x + t ≡ suc m → neg_ℤ (pos x) +ℤ neg_ℤ (pos t) ≡ negsuc m
neg_sum x t m e = sym (neg_ℤ-+ℤ (pos x) (pos t)) ∙ ap (λ (k : ℕ). neg_ℤ (pos k)) e

pos_neg : (n k : ℕ) → pos n *ℤ neg_ℤ (pos k) ≡ neg_ℤ (pos (n * k))
pos_neg n zero = simp mul-zero
pos_neg n (suc k) = refl

towards_zero : (a b : ℤ) → a ≡ b *ℤ quot_z a b +ℤ rem_z a b
towards_zero (pos m) (pos n) = ap pos (sym (div-add-mod m n))
towards_zero (pos m) (negsuc n) = rw (both (negsuc n) (pos (m / suc n))) (ap pos (sym (div-add-mod m (suc n))))
towards_zero (negsuc m) (pos n) = sym (rw (pos_neg n (suc m / n)) (neg_sum (n * (suc m / n)) (suc m % n) m (div-add-mod (suc m) n)))
towards_zero (negsuc m) (negsuc n) = sym (neg_sum (suc n * (suc m / suc n)) (suc m % suc n) m (div-add-mod (suc m) (suc n)))

-- what is left is below the divisor
rem_lt : (a b : ℤ) → 0 < nat_abs b → rem_z a b <ℤ pos (nat_abs b)
rem_lt (pos m) b h = record { lt = lt→ltb (m % nat_abs b) (nat_abs b) (mod-lt m h) }
rem_lt (negsuc m) b h = neg_lt (suc m % nat_abs b)
  where
    neg_lt : (t : ℕ) → neg_ℤ (pos t) <ℤ pos (nat_abs b)
    neg_lt zero = record { lt = lt→ltb 0 (nat_abs b) h }
    neg_lt (suc t) = record { lt = tt }

rem_nonnegative : (a b : ℤ) → pos 0 ≤ℤ a → pos 0 ≤ℤ rem_z a b
rem_nonnegative (pos m) b h = record { le = le→leb 0 (m % nat_abs b) zero-le }
rem_nonnegative (negsuc m) b h = absurd h.le

-- ---- Euclid's: as it is, where what is left is not negative; else in one step

euclidean : (a b q : ℤ) (r : ℕ) → a ≡ b *ℤ q +ℤ pos r → r < nat_abs b → Euclidean a b q (pos r)
euclidean a b q r e h = record { divided = e; not_negative = record { le = le→leb 0 r zero-le }; below = record { lt = lt→ltb r (nat_abs b) h } }

as_it_is : (a b r : ℤ) → 0 < nat_abs b → rem_z a b ≡ r → pos 0 ≤ℤ r → Euclidean a b (quot_z a b) r
as_it_is a b r h e k = rw (← e) (record { divided = towards_zero a b; not_negative = rw e k; below = rem_lt a b h })

-- what is left, where it is negative, with the divisor's magnitude added
raised : (a b : ℤ) → 0 < nat_abs b → rem_z a b <ℤ pos 0 → (r : ℕ) × (rem_z a b +ℤ pos (nat_abs b) ≡ pos r) × (r < nat_abs b)
raised (pos m) b h k = absurd (omega (arith, ltb→lt (m % nat_abs b) 0 k.lt))
raised (negsuc m) b h k = go (suc m % nat_abs b) (mod-lt (suc m) h) k
  where
    go : (t : ℕ) → t < nat_abs b → neg_ℤ (pos t) <ℤ pos 0 → (r : ℕ) × (neg_ℤ (pos t) +ℤ pos (nat_abs b) ≡ pos r) × (r < nat_abs b)
    go zero l k = absurd (omega (arith, ltb→lt 0 0 k.lt))
    go (suc t) l k = (nat_abs b - suc t, rw (le-ltb (nat_abs b) (suc t) (omega arith)), omega arith)

-- what one summand takes off the other puts on
exchange : (x r s t : ℤ) → x +ℤ s +ℤ t ≡ x → x +ℤ s +ℤ (r +ℤ t) ≡ x +ℤ r
exchange x r s t e = ap (λ (z : ℤ). x +ℤ s +ℤ z) (+ℤ_comm r t) ∙ sym (+ℤ_assoc (x +ℤ s) t r) ∙ ap (λ (z : ℤ). z +ℤ r) e

module _ (b q r : ℤ) where
  once_less : b *ℤ (q -ℤ pos 1) +ℤ (r +ℤ b) ≡ b *ℤ q +ℤ r
  once_less =
      let e : b *ℤ (q -ℤ pos 1) ≡ b *ℤ q -ℤ b = ap (λ (z : ℤ). b *ℤ z) (-ℤ_one q) ∙ *ℤ_comm b (pred_ℤ q) ∙ pred_ℤ-*ℤ q b ∙ ap (λ (z : ℤ). z -ℤ b) (*ℤ_comm q b) in
      ap (λ (z : ℤ). z +ℤ (r +ℤ b)) e ∙ exchange (b *ℤ q) r (neg_ℤ b) b (-ℤ-+ℤ_cancel (b *ℤ q) b)

  once_more : b *ℤ (q +ℤ pos 1) +ℤ (r -ℤ b) ≡ b *ℤ q +ℤ r
  once_more =
      let e : b *ℤ (q +ℤ pos 1) ≡ b *ℤ q +ℤ b = ap (λ (z : ℤ). b *ℤ z) (+ℤ_one q) ∙ *ℤ_comm b (suc_ℤ q) ∙ suc_ℤ-*ℤ q b ∙ ap (λ (z : ℤ). z +ℤ b) (*ℤ_comm q b) in
      ap (λ (z : ℤ). z +ℤ (r -ℤ b)) e ∙ exchange (b *ℤ q) r b (neg_ℤ b) (+ℤ-neg_ℤ_cancel (b *ℤ q) b)

-- a step by |b|, from what is left where that is negative
stepped : (a b q r : ℤ) → 0 < nat_abs b → rem_z a b <ℤ pos 0 → r ≡ rem_z a b +ℤ pos (nat_abs b) → a ≡ b *ℤ q +ℤ r → Euclidean a b q r
stepped a b q r h k e f =
    let l = raised a b h k in
    let g = e ∙ l.1 in
    rw g (euclidean a b q l.0 (rw g at f) l.2)

one_less : (a b : ℤ) → rem_z a b <ℤ pos 0 → pos 0 <ℤ b → Euclidean a b (quot_z a b -ℤ pos 1) (rem_z a b +ℤ b)
one_less a (pos n) k h = stepped a (pos n) _ _ (ltb→lt 0 n h.lt) k refl (towards_zero a (pos n) ∙ sym (once_less (pos n) (quot_z a (pos n)) (rem_z a (pos n))))
one_less a (negsuc n) k h = absurd h.lt

one_more : (a b : ℤ) → rem_z a b <ℤ pos 0 → b <ℤ pos 0 → Euclidean a b (quot_z a b +ℤ pos 1) (rem_z a b -ℤ b)
one_more a (negsuc n) k h = stepped a (negsuc n) _ _ (zero-lt-suc n) k refl (towards_zero a (negsuc n) ∙ sym (once_more (negsuc n) (quot_z a (negsuc n)) (rem_z a (negsuc n))))
one_more a (pos n) k h = absurd (omega (arith, ltb→lt n 0 h.lt))

-- ---- where 30 and 31 don't fall

by_pos : (a : ℤ) (n : ℕ) → no_quotient a (pos n) ≡ eqb n 0
by_pos a n = or-false (eqb n 0)

pub by_positive : (a b : ℤ) → pos 0 <ℤ b → no_quotient a b ≡ false
by_positive a (pos n) h = by_pos a n ∙ ne_eqb n 0 (λ e. omega (arith, ltb→lt 0 n h.lt))
by_positive a (negsuc n) h = absurd h.lt

pub of_nonnegative : (a b : ℤ) → pos 0 ≤ℤ a → b <ℤ pos 0 → no_quotient a b ≡ false
of_nonnegative (pos m) (negsuc n) h k = and-false (eqb n 0)
of_nonnegative (pos m) (pos n) h k = absurd (omega (arith, ltb→lt n 0 k.lt))
of_nonnegative (negsuc m) b h k = absurd h.le

module _ (a b : ℤ) (u : no_quotient a b ≡ false) where
  nonzero : 0 < nat_abs b
  nonzero = go b u
    where
      go : (b : ℤ) → no_quotient a b ≡ false → 0 < nat_abs b
      go (pos n) u = omega (arith, eqb-false n 0 (sym (by_pos a n) ∙ u))
      go (negsuc n) u = zero-lt-suc n

  -- Euclid's quotient fits: `only_least`
  quotient_lt : mag a < 2 ^ 63 → mag (quotient a b) < 2 ^ 63
  quotient_lt h = go (ltb (mag (quotient a b)) (2 ^ 63)) refl
    where
      go : (t : Bool) → ltb (mag (quotient a b)) (2 ^ 63) ≡ t → mag (quotient a b) < 2 ^ 63
      go true e = ltb-true (mag (quotient a b)) (2 ^ 63) e
      go false e = let l = only_least a b h (ltb-false (mag (quotient a b)) (2 ^ 63) e) in absurd (true≢false (rw (l.0, l.1) at u))

-- and so does the quotient towards zero

mag_below : (k m : ℕ) → k ≤ suc m → mag (neg_ℤ (pos k)) ≤ m
mag_below zero m h = zero-le
mag_below (suc k) m h = omega arith

quot_z_lt : (a b : ℤ) → no_quotient a b ≡ false → mag a < 2 ^ 63 → mag (quot_z a b) < 2 ^ 63
quot_z_lt (pos m) (pos n) u h = omega (arith, div-le_self m n)
quot_z_lt (pos m) (negsuc n) u h = omega (arith, mag_below (m / suc n) m (omega (arith, div-le_self m (suc n))))
quot_z_lt (negsuc m) (pos n) u h = omega (arith, mag_below (suc m / n) m (div-le_self (suc m) n))
quot_z_lt (negsuc m) (negsuc zero) u h = omega (arith, div-le_self (suc m) 1, eqb-false m (2 ^ 63 - 1) u)
quot_z_lt (negsuc m) (negsuc (suc n)) u h = omega (arith, div-lt_self (zero-lt-suc m) (suc-le-suc (zero-lt-suc n)))

bits_nonzero : (b : ℤ) → 0 < nat_abs b → SFits w64 b → 0 < of_z w64 b
bits_nonzero (pos n) h f = h
bits_nonzero (negsuc n) h f = omega (arith, f.sfits)

-- ---- no other q and r are Euclid's

only : (a b q r : ℤ) → Euclidean a b q r → (q ≡ quotient a b) × (r ≡ pos (remainder a b))
only a b q (pos r) e = let f = euclid_only a b q r e.divided (ltb→lt r (nat_abs b) e.below.lt) in (f.0, ap pos f.1)
only a b q (negsuc r) e = absurd e.not_negative.le

-- two 64-bit numbers where 30 and 31 don't fall
pub record Given (a b : ℤ) : Type 0 where
  pub fits_a : SFits w64 a
  pub fits_b : SFits w64 b
  pub divisible : no_quotient a b ≡ false

module _ {a b : ℤ} (g : Given a b) where
  nonzero_b : 0 < nat_abs b
  nonzero_b = nonzero a b g.divisible

  allowed : (0 < of_z w64 b) × SFits w64 (quot_z a b)
  allowed = (bits_nonzero b nonzero_b g.fits_b, record { sfits = quot_z_lt a b g.divisible g.fits_a.sfits })

  left-fits : SFits w64 (rem_z a b)
  left-fits = record { sfits = lt_of_le_of_lt (mag_rem a b) g.fits_a.sfits }

  module _ {q r : ℤ} (e : Euclidean a b q r) where
    quotient_fits : SFits w64 q
    quotient_fits = record { sfits = rw (only a b q r e).0 (quotient_lt a b g.divisible g.fits_a.sfits) }

    remainder-fits : SFits w64 r
    remainder-fits = record { sfits = rw (only a b q r e).1 (omega (arith, rest_lt a (nat_abs b) nonzero_b, nat_abs-le b g.fits_b.sfits)) }

    pub div_is : Some q ≡ checked_div a b
    unfolding checked_div
    div_is = rw (ne_eqb (nat_abs b) 0 (λ z. omega (arith, nonzero_b)), ← (only a b q r e).0, lt-ltb (mag q) (2 ^ 63) quotient_fits.sfits)

    pub rem_is : Some r ≡ checked_rem a b
    unfolding checked_rem
    rem_is = rw (← div_is, (only a b q r e).1)

-- ---- where 30 and 31 fall

pub no_quotient_lem : (a b : ℤ) → no_quotient a b ≡ true → None ≡ checked_div a b
unfolding checked_div
no_quotient_lem a (pos n) u = rw (sym (by_pos a n) ∙ u)
no_quotient_lem (pos m) (negsuc n) u = absurd (false≢true (sym (and-false (eqb n 0)) ∙ u))
no_quotient_lem (negsuc m) (negsuc zero) u = rw (eqb-true m (2 ^ 63 - 1) u)
no_quotient_lem (negsuc m) (negsuc (suc n)) u = absurd (false≢true (rw (ne_eqb (suc n) 0 (λ e. omega arith)) at u))

pub no_remainder : (a b : ℤ) → no_quotient a b ≡ true → None ≡ checked_rem a b
unfolding checked_rem
no_remainder a b u = rw (← no_quotient_lem a b u)

-- ---- what a test of the code says

none_left : (r : ℤ) → SFits w64 r → of_z w64 r ≡ 0 → r ≡ pos 0
none_left (pos n) f e = ap pos e
none_left (negsuc n) f e = absurd (omega (arith, f.sfits))

some_left : (a b : ℤ) → a <ℤ pos 0 → (of_z w64 (rem_z a b) ≡ 0 → ⊥) → rem_z a b <ℤ pos 0
some_left (pos m) b h e = absurd (omega (arith, ltb→lt m 0 h.lt))
some_left (negsuc m) b h e = go (suc m % nat_abs b) e
  where
    go : (t : ℕ) → (of_z w64 (neg_ℤ (pos t)) ≡ 0 → ⊥) → neg_ℤ (pos t) <ℤ pos 0
    go zero e = absurd (e refl)
    go (suc t) e = record { lt = tt }

pub is_negative : {a : ℤ} → lt_z a (pos 0) ≡ true → a <ℤ pos 0
is_negative e = lt_z_yes (subst T (sym e) tt)

pub is_nonnegative : {a : ℤ} → lt_z a (pos 0) ≡ false → pos 0 ≤ℤ a
is_nonnegative e = lt_z_no (subst T (sym (ap not e)) tt)

pub is_positive : (a b : ℤ) → no_quotient a b ≡ false → pos 0 ≤ℤ b → pos 0 <ℤ b
is_positive a (pos n) u h = record { lt = lt→ltb 0 n (nonzero a (pos n) u) }
is_positive a (negsuc n) u h = absurd h.le

-- ---- the operations of the code: operands and results are read from their bits

abbrev pub word : ℤ → ℤ
word z = to_z w64 (of_z w64 z)

-- `a / b` and `a % b`
abbrev pub times : ℤ → ℤ → ℤ
times a b = word (quot_z (word a) (word b))

abbrev pub left : ℤ → ℤ → ℤ
left a b = word (rem_z (word a) (word b))

-- what both ask
abbrev pub Asks : ℤ → ℤ → Type 0
Asks a b = (0 < of_z w64 b) × SFits w64 (quot_z (word a) (word b))

-- q and r fit, and are Euclid's
abbrev pub Found : ℤ → ℤ → ℤ → ℤ → Type 0
Found a b q r = SFits w64 q × SFits w64 r × Euclidean a b (word q) (word r)

module _ {a b : ℤ} (g : Given a b) where
  pub asks : Asks a b
  asks = rw (to_z-of_z g.fits_a, to_z-of_z g.fits_b) (allowed g)

  times_is : times a b ≡ quot_z a b
  times_is = rw (to_z-of_z g.fits_a, to_z-of_z g.fits_b) (to_z-of_z (allowed g).1)

  left_is : left a b ≡ rem_z a b
  left_is = rw (to_z-of_z g.fits_a, to_z-of_z g.fits_b) (to_z-of_z (left-fits g))

  -- what is left of a number that is not negative is not negative
  pub plain : pos 0 ≤ℤ a → Euclidean a b (times a b) (left a b)
  plain h = rw (times_is, left_is) (as_it_is a b (rem_z a b) (nonzero_b g) refl (rem_nonnegative a b h))

  -- nothing is left
  pub exact : of_z w64 (rem_z (word a) (word b)) ≡ 0 → Euclidean a b (times a b) (pos 0)
  exact e =
      rw times_is
      (as_it_is a b (pos 0) (nonzero_b g) (none_left (rem_z a b) (left-fits g) (rw (to_z-of_z g.fits_a, to_z-of_z g.fits_b) at e)) (≤ℤ_refl (pos 0)))

  found : {q r : ℤ} → Euclidean a b q r → Found a b q r
  found e =
      let k = quotient_fits g e in
      let l = remainder-fits g e in
      (k, l, rw (to_z-of_z k, to_z-of_z l) e)

  -- something is left of a negative number
  module _ (h : a <ℤ pos 0) (e : of_z w64 (rem_z (word a) (word b)) ≡ 0 → ⊥) where
    negative_left : rem_z a b <ℤ pos 0
    negative_left = some_left a b h (rw (to_z-of_z g.fits_a, to_z-of_z g.fits_b) at e)

    pub less : pos 0 <ℤ b → Found a b (times a b -ℤ pos 1) (left a b +ℤ word b)
    less k = rw (times_is, left_is, to_z-of_z g.fits_b) (found (one_less a b negative_left k))

    pub more : b <ℤ pos 0 → Found a b (times a b +ℤ pos 1) (left a b -ℤ word b)
    more k = rw (times_is, left_is, to_z-of_z g.fits_b) (found (one_more a b negative_left k))
