-- The invariant of both readers' loops, and what each way through a turn owes it.
use Rattle.std.proofs.Common.{Option, Some, eqb, false, true}
use Rattle.std.specs.Option.{option_eq}
use Prim.Native.Nat.{ℕ, ◌+◌, ◌-◌, ◌<◌, ◌≤◌}
use mathlib.Core.Path.{◌≡◌, refl, sym, ap, ◌∙◌}
use mathlib.Core.List.{List}
use native.Mathlib.Omega.{arith}
use lib.ListN.{length}
use Rattle.slices.specs.Bytes.{bytes_value}
use Rattle.semantics.specs.Operations.{Token}
use Rattle.semantics.specs.Records.{Records, token_at}
use Rattle.productions.specs.Before.{before}
use Rattle.productions.specs.Ending.{row_at, row_numbered, rows}
use Rattle.productions.proofs.Places.{At, numbered_row, same_some, some_same}
use Rattle.productions.proofs.Tokens.{length_before}
use Rattle.readers.specs.declared.Reading.{Reading}
use Rattle.productions.specs.Noted.{Fitting, Rows, row_in}
use Rattle.productions.proofs.Noted.{fitting_fewer, noted_at, own_tokens, rows-fewer}
use Rattle.readers.specs.Readings.{Answers}
use Rattle.readers.proofs.Steps.{stop}

-- what stands between two index operands has one token
between_width : length (row_at 23).marks ≡ 1
unfolding rows bytes_value
between_width = refl

module _ (rs : List ℕ) (last middle k : ℕ) (fits : Fitting rs last) (low : middle ≤ last) (row : k ≡ row_in rs middle) (is : k ≡ 23) where
  pub between_there : 1 ≤ middle
  between_there = (own_tokens rs last middle 23 1 fits low (sym is ∙ row) (omega arith) (sym between_width)).1

  pub between_at : (r : Records) → Rows r rs last → At (token_at r) middle 23 (middle - 1)
  between_at = noted_at rs last middle 23 1 fits low (sym is ∙ row) (omega arith) (sym between_width)

-- whether it stands there, by the row that was told
pub between_told : (x : Option ℕ) (n : ℕ) → x ≡ row_numbered n → option_eq eqb x (Some 23) ≡ true → 23 ≡ n
between_told x n e is = (numbered_row n 23 (sym e ∙ same_some x 23 is)).0

pub other_told : (x : Option ℕ) (n : ℕ) → x ≡ row_numbered n → option_eq eqb x (Some 23) ≡ false → n ≡ 23 → ⊥
other_told x n e is same = some_same x 23 is (e ∙ ap row_numbered same)

-- `reads n` reads n expressions
pub record Loop (reads : ℕ → List Token → Reading) (rs : List ℕ) (last end count : ℕ) : Type 0 where
  pub low : end ≤ last
  pub room : count + end ≤ last + 1
  pub same : (r : Records) → Rows r rs last → reads count (before (token_at r) end) ≡ reads 1 (before (token_at r) last)

module _ (reads : ℕ → List Token → Reading) (rs : List ℕ) (last : ℕ) where
  pub loop_start : Loop reads rs last last 1
  loop_start = record { low = omega arith; room = omega arith; same = λ r p. refl }

  pub loop_turn : (end count end' count' : ℕ) → Loop reads rs last end count → end' ≤ end → count' + end' ≤ count + end
      → ((r : Records) → Rows r rs last → reads count (before (token_at r) end) ≡ reads count' (before (token_at r) end')) → Loop reads rs last end' count'
  loop_turn end count end' count' l h room e =
      record { low = omega (arith, l.low); room = omega (arith, l.room); same = λ r p. sym (e r p) ∙ l.same r p }

  module _ (read : List Token → Reading) (one : (ts : List Token) → reads 1 ts ≡ read ts) where
    pub loop_nothing : (end count : ℕ) → Loop reads rs last end count → ((r : Records) → Rows r rs last → Reading.Nothing ≡ reads count (before (token_at r) end))
        → Answers rs last Reading.Nothing read
    loop_nothing end count l e =
        record {
          within = λ n h. let z : ◌≡◌ {A = ℕ} 0 1 = cc in absurd (omega arith);
          right = λ r p. e r p ∙ l.same r p ∙ one (before (token_at r) last);
        }

    pub loop_done : ((ts : List Token) → reads 0 ts ≡ stop ts) → (end count : ℕ) → Loop reads rs last end count → count ≡ 0 → Answers rs last (Reading.Read end) read
    loop_done none end count l z =
        record {
          within = λ n h. let is : end ≡ n = cc in omega (arith, l.low);
          right = λ r p. ap Reading.Read (sym (length_before (token_at r) end)) ∙ sym (none (before (token_at r) end))
              ∙ ap (λ (n : ℕ). reads n (before (token_at r) end)) (sym z) ∙ l.same r p ∙ one (before (token_at r) last);
        }

-- a turn whose row and width are told
pub record Turn (reads : ℕ → List Token → Reading) (rs : List ℕ) (last end count k w : ℕ) : Type 0 where
  pub fits : Fitting rs last
  pub loop : Loop reads rs last end count
  pub some : 0 < count
  pub row : k ≡ row_in rs end
  pub there : k < 29
  pub wide : w ≡ length (row_at k).marks

-- a place that was told of is that of a row
pub turn_of : {reads : ℕ → List Token → Reading} {rs : List ℕ} {last end count k w : ℕ} {told : Option ℕ} → Fitting rs last → Loop reads rs last end count → 0 < count
    → told ≡ row_numbered (row_in rs end) → told ≡ Some k → w ≡ length (row_at k).marks → Turn reads rs last end count k w
turn_of {rs = rs} {end = end} {k = k} f l s e is w =
    let n = numbered_row (row_in rs end) k (sym e ∙ is) in record { fits = f; loop = l; some = s; row = n.0; there = n.1; wide = w }

module _ {reads : ℕ → List Token → Reading} {rs : List ℕ} {last end count k w : ℕ} (t : Turn reads rs last end count k w) where
  pub own : (1 ≤ w) × (w ≤ end)
  own = own_tokens rs last end k w t.fits t.loop.low t.row t.there t.wide

  pub found : (r : Records) → Rows r rs last → At (token_at r) end k (end - w)
  found = noted_at rs last end k w t.fits t.loop.low t.row t.there t.wide

  -- so the tokens before its own are fewer
  pub before_fits : Fitting rs (end - w)
  before_fits = fitting_fewer rs last (end - w) t.fits (omega (arith, own, t.loop.low))

  pub before_rows : (r : Records) → Rows r rs last → Rows r rs (end - w)
  before_rows r p = rows-fewer r rs last (end - w) p (omega (arith, own, t.loop.low))
