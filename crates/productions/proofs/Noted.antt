-- The rows that are noted: one by one, before an earlier place, and with their own tokens.
use Rattle.std.proofs.Common.{Option, Some, None, unwrap_or}
use Prim.Native.Nat.{ℕ, ◌+◌, ◌-◌, ◌<◌, ◌≤◌}
use mathlib.Core.Bool.{Bool, true, false, cond}
use mathlib.Core.Path.{◌≡◌, refl, sym, ap, ◌∙◌}
use mathlib.Core.List.{List}
use native.Mathlib.Omega.{arith}
use borrow.Author.Tests.{eqb-false, eqb-true, ltb-false, ltb-true}
use lib.Dec.{eqb, ltb}
use lib.ListN.{length, set, get_or-eq_default}
use lib.Seq.{get_or-set_other, get_or-set_same}
use Rattle.slices.specs.Bytes.{bytes_value}
use Rattle.semantics.specs.Code.{max_tokens}
use Rattle.semantics.specs.Operations.{Token}
use Rattle.semantics.specs.Records.{Records, token_at}
use Rattle.semantics.specs.FromTokens.{Found, found, nothing}
use Rattle.productions.specs.Before.{before}
use Rattle.productions.specs.Ending.{Row, blank, ends, last_row, row_at, row_found, row_numbered, rows}
use Rattle.productions.specs.Noted.{Fitting, Rows, row_in}
use Rattle.productions.proofs.Endings.{last_row-ends}
use Rattle.productions.proofs.Places.{At, row-found}
use Rattle.productions.proofs.Table.{widths}

-- what is no row has no marks
beyond_rows : (k : ℕ) → 29 ≤ k → length (row_at k).marks ≡ 0
unfolding rows
beyond_rows k h = ap (λ (x : Row). length x.marks) (get_or-eq_default rows blank {n = k} h)

-- the rows before an earlier place
pub rows-fewer : (r : Records) (rs : List ℕ) (last n : ℕ) → Rows r rs last → n ≤ last → Rows r rs n
rows-fewer r rs last n p h = record { noted = λ i l. p.noted i (omega arith) }

pub fitting_fewer : (rs : List ℕ) (last n : ℕ) → Fitting rs last → n ≤ last → Fitting rs n
fitting_fewer rs last n p h = record { few = omega (arith, p.few); fitting = λ i l. p.fitting i (omega arith) }

-- a row that is found has no more tokens than stand there
pub rows_fit : (r : Records) (rs : List ℕ) (last : ℕ) → last ≤ max_tokens → Rows r rs last → Fitting rs last
rows_fit r rs last few p = record { few = few; fitting = λ i l. fit i (row_in rs i) (p.noted i l) (ltb (row_in rs i) 29) refl }
  where
    fit : (i k : ℕ) → k ≡ row_found (last_row (before (token_at r) i)) → (b : Bool) → ltb k 29 ≡ b → length (row_at k).marks ≤ i
    fit i k e true q = (row-found (token_at r) i k (length (row_at k).marks) e (ltb-true k 29 q) refl).0
    fit i k e false q = omega (arith, beyond_rows k (ltb-false k 29 q))

-- rows are noted one by one
pub rows_none : (r : Records) (rs : List ℕ) → Rows r rs 0
unfolding before last_row rows ends bytes_value row_in
rows_none r rs = record { noted = λ i h. let z : i ≡ 0 = omega arith in rw z refl }

pub rows_more : (r : Records) (rs : List ℕ) (i k : ℕ) → Rows r rs i → i < length rs → k ≡ row_found (last_row (before (token_at r) (i + 1))) → Rows r (set rs i k) (i + 1)
unfolding row_in
rows_more r rs i k p h e = record { noted = λ j l. go j l (eqb j 0) refl (eqb j (i + 1)) refl }
  where
    one_more : (j : ℕ) → (j ≡ 0 → ⊥) → 1 ≤ j
    one_more j m = omega (arith, m)

    below : (j : ℕ) → j ≤ i + 1 → (j ≡ i + 1 → ⊥) → j ≤ i
    below j l n = omega (arith, n)

    go : (j : ℕ) → j ≤ i + 1 → (a : Bool) → eqb j 0 ≡ a → (b : Bool) → eqb j (i + 1) ≡ b → row_in (set rs i k) j ≡ row_found (last_row (before (token_at r) j))
    go j l true q b f = rw q (rw q at (p.noted j (omega (arith, eqb-true j 0 q))))
    go j l false q true f =
        let is : j ≡ i + 1 = eqb-true j (i + 1) f in
        let one : j - 1 ≡ i = omega arith in
        rw (q, one) (get_or-set_same rs i k 0 h ∙ e ∙ ap (λ (n : ℕ). row_found (last_row (before (token_at r) n))) (sym is))
    go j l false q false f =
        let n = eqb-false j (i + 1) f in
        let m = eqb-false j 0 q in
        rw (q, get_or-set_other rs i (j - 1) k 0 λ z. n (omega (arith, z, one_more j m))) (rw q at (p.noted j (below j l n)))

pub row_low : (ts : List Token) → row_found (last_row ts) ≤ 29
row_low ts = go (last_row ts) refl
  where
    go : (g : Found ℕ) → last_row ts ≡ g → row_found g ≤ 29
    go (found k r) e = omega (arith, (last_row-ends ts k r e).row)
    go nothing e = omega arith

-- a row, or none, as it is noted
pub noted_number : (k : ℕ) (row : Option ℕ) → k ≤ 29 → row ≡ row_numbered k → unwrap_or row 29 ≡ k
noted_number k row most e = rw e (go (ltb k 29) refl)
  where
    go : (b : Bool) → ltb k 29 ≡ b → unwrap_or (cond b (Some k) None) 29 ≡ k
    go true l = refl
    go false l = let low = ltb-false k 29 l in omega arith

-- the own tokens of a row that is noted
module _ (rs : List ℕ) (last end k w : ℕ) (fits : Fitting rs last) (low : end ≤ last) (row : k ≡ row_in rs end) (there : k < 29) (wide : w ≡ length (row_at k).marks) where
  pub own_tokens : (1 ≤ w) × (w ≤ end)
  own_tokens =
      (omega (arith, (widths k there).0), omega (arith, wide, ap (λ (j : ℕ). length (row_at j).marks) row, fits.fitting end low))

  pub noted_at : (r : Records) → Rows r rs last → At (token_at r) end k (end - w)
  noted_at r p = (row-found (token_at r) end k w (row ∙ p.noted end low) there wide).1
