-- A text at the end of a buffer: one character more before it, and the text of a number.
use Prim.Native.Nat.{ℕ, suc, ◌+◌, ◌-◌, ◌/◌, ◌%◌, ◌^◌, ◌≤◌, ◌<◌}
use mathlib.Core.Bool.{true, false}
use mathlib.Core.Path.{◌≡◌, refl, sym, ap, ap₂, ◌∙◌}
use mathlib.Core.List.{List, [], ◌∷◌, ◌++◌, append-nil}
use native.Mathlib.Omega.{arith}
use lib.IntN.{ℤ, pos, negsuc}
use lib.ListN.{length, get_or, set, take, drop, drop_of_length-le, length-append, length-take, take-append-drop}
use mir.Syntax.{w64}
use lib.Seq.{append_snoc, set_at, take-suc, length-take-le}
use Rattle.std.specs.Prelude.{unsigned_abs}
use Rattle.std.specs.Int.{is_negative}
use Rattle.std.specs.Fmt.{decimal as library_decimal}
use Rattle.std.proofs.Common.{rules}
use Rattle.std.proofs.lemmas.Fmt.{decimal_by_steps}
use Rattle.std.proofs.lemmas.Int.{of_z-to_z}
use Rattle.word64.specs.Bits.{bits_of, signed_of}
use Rattle.decimals.specs.Decimal.{Ending, decimal, digit, hyphen, signed}
use Rattle.decimals.proofs.Digits.{digits_none, digits_some}

pub ending-length : {old text now : List ℕ} {start : ℕ} → Ending old text now start → length now ≡ length old
ending-length {old} {text} {now} {start} e = rw e.is (simp (length-append, length-take) (omega (arith, e.ends)))

-- one character more
pub ending_more : {old text now : List ℕ} {start : ℕ} (v : ℕ) → Ending old text now start → 0 < start → Ending old (v ∷ text) (set now (start - 1) v) (start - 1)
ending_more {old} {text} {now} {start} v e h =
    let s : start ≡ suc (start - 1) = omega arith in
    let l : length (take (start - 1) old) ≡ start - 1 = length-take-le (start - 1) old (omega (arith, e.ends)) in
    let split : take start old ++ text ≡ take (start - 1) old ++ get_or old (start - 1) 0 ∷ text =
    ap (λ (k : ℕ). take k old ++ text) s ∙ ap (λ (xs : List ℕ). xs ++ text) (take-suc old (start - 1) 0 (omega (arith, e.ends)))
    ∙ append_snoc (take (start - 1) old) (get_or old (start - 1) 0) text in
    record {
      is = ap (λ (xs : List ℕ). set xs (start - 1) v) (e.is ∙ split) ∙ set_at (take (start - 1) old) (get_or old (start - 1) 0) text v (start - 1) l;
      ends = omega (arith, e.ends);
    }

-- ---- a number's digits

-- the library's text of a number is `decimal`
pub decimal_is : (n : ℕ) → n < 2 ^ 64 → library_decimal n ≡ decimal n
unfolding decimal
decimal_is n h = decimal_by_steps (λ k ds. ds ≡ decimal k) one more n h
  where
    one : (k : ℕ) → k < 10 → (48 + k) ∷ [] ≡ decimal k
    one k l =
        let r : k % 10 ≡ k = omega arith in
        rw (digits_none (k / 10) (omega arith), r)

    more : (k : ℕ) (ds : List ℕ) → 10 ≤ k → ds ≡ decimal (k / 10) → ds ++ (digit k ∷ []) ≡ decimal k
    more k ds l e = rw (e, digits_some (k / 10) (λ z. omega arith))

-- the text at the end, and before it what was there
pub ending_decimal : (n : ℕ) (old now : List ℕ) (start : ℕ) → n < 2 ^ 64 → start + length (library_decimal n) ≡ length old
    → drop start now ≡ library_decimal n ++ drop (length old) old → take start now ≡ take start old → Ending old (decimal n) now start
ending_decimal n old now start h ends after before =
    let d = decimal_is n h in
    record {
      is = sym (take-append-drop start now) ∙ ap₂ ◌++◌ before (after ∙ rw (drop_of_length-le old {i = length old} (omega arith), append-nil, d));
      ends = rw d at ends;
    }

-- ---- a signed number's

below : (z : ℤ) → is_negative z ≡ true → signed z ≡ hyphen ∷ decimal (unsigned_abs z)
unfolding signed
below (pos n) e = absurd (search (rules, e))
below (negsuc n) e = refl

above : (z : ℤ) → is_negative z ≡ false → signed z ≡ decimal (unsigned_abs z)
unfolding signed
above (pos n) e = refl
above (negsuc n) e = absurd (search (rules, e))

shorter : (z : ℤ) → length (decimal (unsigned_abs z)) ≤ length (signed z)
unfolding signed
shorter (pos n) = omega arith
shorter (negsuc n) = omega arith

-- z is given by its bits, and n is its amount
module _ (bits : ℕ) (z : ℤ) {n : ℕ} (h : bits < 2 ^ 64) (is : z ≡ signed_of bits) (amount : n ≡ unsigned_abs (signed_of (bits_of z))) where
  same : signed_of (bits_of z) ≡ signed_of bits
  same = rw (is, of_z-to_z w64 bits h)

  number : n ≡ unsigned_abs (signed_of bits)
  number = amount ∙ ap unsigned_abs same

  -- the hyphen is all that stands before its digits
  pub digits_fit : length (decimal n) ≤ length (signed (signed_of bits))
  digits_fit = rw number (shorter (signed_of bits))

  pub signed_below : is_negative (signed_of (bits_of z)) ≡ true → signed (signed_of bits) ≡ hyphen ∷ decimal n
  signed_below e = rw number (below (signed_of bits) (ap is_negative (sym same) ∙ e))

  pub signed_above : is_negative (signed_of (bits_of z)) ≡ false → signed (signed_of bits) ≡ decimal n
  signed_above e = rw number (above (signed_of bits) (ap is_negative (sym same) ∙ e))
