-- A column is written from its right end, and a line column by column.
use Prim.Native.Nat.{ℕ, ◌+◌, ◌-◌, ◌≤◌}
use mathlib.Core.Path.{◌≡◌, ap, ◌∙◌}
use mathlib.Core.List.{List, ◌++◌}
use native.Mathlib.Omega.{arith}
use borrow.Rule.Slice.PartMut.{mid_of, put_mid}
use lib.ListN.{length, drop, take, length-append, length-drop, length-take, length-replicate, replicate}
use lib.Seq.{drop_at, length-take-le}
use Rattle.slices.proofs.Front.{Front, front_length, front-lent}
use Rattle.decimals.specs.Decimal.{Ending}
use Rattle.decimals.proofs.Ends.{ending-length}
use Rattle.sheet.specs.Sheet.{blank, right_aligned}

pub length_aligned : (w : ℕ) (t : List ℕ) → length t ≤ w → length (right_aligned w t) ≡ w
unfolding right_aligned
length_aligned w t h = simp (length-append, length-replicate) (omega arith)

-- a text at the end of a column, and blanks in front of it
pub aligned : {old text now front : List ℕ} {start : ℕ} → Ending old text now start → front ≡ replicate (length (take start now)) blank
    → front ++ drop start now ≡ right_aligned (length old) text
unfolding right_aligned
aligned {old} {text} {now} {front} {start} e l =
    let w : length (take start now) ≡ start = length-take-le start now (omega (arith, ending-length e, e.ends)) in
    let d : drop start now ≡ text = ap (drop start) e.is ∙ drop_at (take start old) text start (length-take-le start old (omega (arith, e.ends))) in
    let k : length old - length text ≡ start = omega (arith, e.ends) in
    rw (k, l, w, d)

-- ---- columns one after another (`Front`)

-- the next m places were lent, and have come back with a text right-aligned in them
pub front_column : {now xs ws last : List ℕ} {n : ℕ} (m : ℕ) (t : List ℕ) → Front now xs ws n → n + m ≤ length xs → length t ≤ m
    → last ≡ right_aligned (length (mid_of n m now)) t → Front (put_mid n m now last) xs (ws ++ right_aligned m t) (n + m)
front_column {now} {xs} {ws} {last} {n} m t f h k e =
    let w : length (mid_of n m now) ≡ m = simp (length-take, length-drop) (omega (arith, front_length f (omega arith))) in
    front-lent m f (e ∙ ap (λ (j : ℕ). right_aligned j t) w) (length_aligned m t k)
