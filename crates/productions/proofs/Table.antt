-- The code's table is that of the definitions' rows, entry for entry; each is one computed test.
use Rattle.std.proofs.Common.{Option, Some}
use Rattle.semantics.specs.Code.{known}
use Prim.Native.Nat.{ℕ, zero, suc, ◌+◌, ◌-◌, ◌<◌, ◌≤◌}
use mathlib.Core.Bool.{Bool, true, false, not, ◌&&◌, ◌||◌}
use mathlib.Core.Path.{◌≡◌, refl, sym, ap, ◌∙◌}
use mathlib.Core.List.{List, [], ◌∷◌, map, reverse}
use native.Mathlib.Omega.{arith}
use borrow.Author.Tests.{eqb-true, leb-true, lt-ltb, ltb-false, ltb-true}
use lib.Dec.{eqb, leb, ltb}
use lib.ListN.{length, get_or, take, drop, get_or-replicate, replicate, get_or-eq_default, get_or-map, length-map}
use lib.Seq.{get_or-drop, get_or-take}
use Rattle.semantics.specs.Operations.{Token}
use Rattle.semantics.specs.declared.Command.{Command}
use Rattle.semantics.specs.FromTokens.{same_bytes}
use Rattle.semantics.proofs.Find.{same_bytes_true}
use Rattle.semantics.proofs.Tests.{and_true}
use Rattle.slices.specs.Bytes.{bytes_value}
use Rattle.token_table.specs.declared.TokenKind.{TokenKind}
use Rattle.token_table.specs.Kinds.{number}
use Rattle.token_table.specs.TokenRows.{token_row}
use Rattle.productions.specs.Ending.{Production, Row, blank, command_in, fits, mark_of, production_of, productions, row_at, rows}
use Rattle.productions.proofs.Shapes.{IndexShape, ValueShape, index_shape, value_shape}
use Rattle.productions.proofs.Endings.{is_comparison}

-- a test that every element of a list passes
unfoldable pub all : {A : Type 0} → (A → Bool) → List A → Bool
all f [] = true
all f (a ∷ l) = f a && all f l

pub all_at : {A : Type 0} (f : A → Bool) (l : List A) (d : A) → all f l ≡ true → (k : ℕ) → k < length l → f (get_or l k d) ≡ true
unfolding all
all_at f [] d e k h = absurd (omega arith)
all_at f (a ∷ l) d e zero h = (and_true (f a) (all f l) e).0
all_at f (a ∷ l) d e (suc k) h = all_at f l d (and_true (f a) (all f l) e).1 k (omega arith)

-- a row has one to thirteen marks
pub widths : (k : ℕ) → k < 29 → (1 ≤ length (row_at k).marks) × (length (row_at k).marks ≤ 13)
unfolding rows all bytes_value
widths k h =
    let f : Row → Bool = λ r. leb 1 (length r.marks) && leb (length r.marks) 13 in
    let e = and_true (leb 1 (length (row_at k).marks)) (leb (length (row_at k).marks) 13) (all_at f rows blank refl k h) in
    (leb-true 1 (length (row_at k).marks) e.0, leb-true (length (row_at k).marks) 13 e.1)

-- the marks of the first n of a command's kinds, the last one first, in a row of several tokens
abbrev pub backwards : List ℕ → ℕ → List ℕ
backwards kinds n = map mark_of (reverse (take n kinds))

-- a row of several tokens has the marks of its command's kinds but the last, read backwards; no kind is the mark of a Num of 1
pub record OwnKinds (k : ℕ) (own : List ℕ) : Type 0 where
  pub marks : (row_at k).marks ≡ backwards own (length own - 1)
  pub count : length (row_at k).marks ≡ length own - 1
  pub some : 1 ≤ length own
  pub low : (i : ℕ) → get_or own i 0 < 36

low_at : (l : List ℕ) → all (λ k. ltb k 36) l ≡ true → (i : ℕ) → get_or l i 0 < 36
unfolding all
low_at [] e i = omega arith
low_at (k ∷ l) e zero = ltb-true k 36 (and_true (ltb k 36) (all (λ k. ltb k 36) l) e).0
low_at (k ∷ l) e (suc i) = low_at l (and_true (ltb k 36) (all (λ k. ltb k 36) l) e).1 i

pub own_kinds : (k : ℕ) → k < 29 → 1 < length (row_at k).marks → OwnKinds k (token_row (row_at k).command)
unfolding rows all bytes_value
own_kinds k h wide =
    let own : List ℕ = token_row (row_at k).command in
    let ms : List ℕ = (row_at k).marks in
    let f : Row → Bool = λ r.
    not (ltb 1 (length r.marks)) || (same_bytes r.marks (backwards (token_row r.command) (length (token_row r.command) - 1)) && (eqb (length r.marks) (length (token_row r.command) - 1)
    && (leb 1 (length (token_row r.command)) && all (λ k. ltb k 36) (token_row r.command)))) in
    let test = rw (lt-ltb 1 (length ms) wide) at (all_at f rows blank refl k h) in
    let a = and_true (same_bytes ms (backwards own (length own - 1))) _ test in
    let b = and_true (eqb (length ms) (length own - 1)) _ a.1 in
    let c = and_true (leb 1 (length own)) _ b.1 in
    record {
      marks = same_bytes_true ms (backwards own (length own - 1)) a.0;
      count = eqb-true (length ms) (length own - 1) b.0;
      some = leb-true 1 (length own) c.0;
      low = low_at own c.1;
    }

-- and such a row has a command
pub own_command : (k : ℕ) → k < 29 → 1 < length (row_at k).marks → command_in (row_at k) ≡ Some (row_at k).command
unfolding rows all bytes_value
own_command k h wide =
    let f : Row → Bool = λ r. not (ltb 1 (length r.marks)) || known r.command in
    rw (rw (lt-ltb 1 (length (row_at k).marks) wide) at (all_at f rows blank refl k h))

-- as the code has them
pub record OwnRow (k : ℕ) (own : List TokenKind) : Type 0 where
  pub marks : (row_at k).marks ≡ backwards (map number own) (length own - 1)
  pub count : length (row_at k).marks ≡ length own - 1
  pub some : 1 ≤ length own

pub own_row : (k : ℕ) (told : Option Command) (command : Command) (own : List TokenKind) → told ≡ command_in (row_at k) → told ≡ Some command
    → map number own ≡ token_row command → k < 29 → 1 < length (row_at k).marks → OwnRow k own
own_row k told command own c some e h wide =
    let is : command ≡ (row_at k).command = let both = sym some ∙ c ∙ own_command k h wide in cc in
    let row : map number own ≡ token_row (row_at k).command = e ∙ ap token_row is in
    let o = own_kinds k h wide in
    let long : length (token_row (row_at k).command) ≡ length own = sym (ap length row) ∙ length-map own number in
    record { marks = rw (row, ← long) o.marks; count = rw (← long) o.count; some = rw (← long) o.some }

own_at : (own : List TokenKind) (i : ℕ) (d : TokenKind) → i < length own → get_or (map number own) i 0 ≡ number (get_or own i d)
own_at [] i d h = absurd (omega arith)
own_at (x ∷ own) zero d h = refl
own_at (x ∷ own) (suc i) d h = own_at own i d (omega arith)

pub own_fits : (own : List TokenKind) (i v kind n : ℕ) (d : TokenKind) (b : Bool) → i < length own → v ≡ number (get_or own i d) → b ≡ fits (mark_of v) kind n
    → b ≡ fits (mark_of (get_or (map number own) i 0)) kind n
own_fits own i v kind n d b h e f = f ∙ ap (λ (m : ℕ). fits (mark_of m) kind n) (e ∙ sym (own_at own i d h))

-- a run of equal elements
run_at : {A : Type 0} (l : List A) (d a : A) (from n k : ℕ) → take n (drop from l) ≡ replicate n a → from ≤ k → k < from + n → get_or l k d ≡ a
run_at {A = A} l d a from n k e low high =
    let at : from + (k - from) ≡ k = omega arith in
    ap (λ (i : ℕ). get_or l i d) (sym at) ∙ sym (get_or-drop from l (k - from) d) ∙ sym (get_or-take n (drop from l) (k - from) d (omega arith))
    ∙ ap (λ (m : List A). get_or m (k - from) d) e ∙ get_or-replicate n (k - from) a d (omega arith)

-- a run of rows with as many marks
pub width_run : (w from n k : ℕ) → take n (drop from (map (λ (r : Row). length r.marks) rows)) ≡ replicate n w → from ≤ k → k < from + n → w ≡ length (row_at k).marks
width_run w from n k run low high =
    sym (sym (get_or-map (λ (r : Row). length r.marks) rows k blank) ∙ run_at (map (λ (r : Row). length r.marks) rows) 0 w from n k run low high)

-- the last rows have one token
pub single_run : (k : ℕ) → 23 ≤ k → k < 29 → length (row_at k).marks ≡ 1
unfolding rows bytes_value
single_run k low high = sym (width_run 1 23 6 k refl low high)

-- what a row's production is, whatever the tokens carry
module _ {A : Type 0} (f : Production → A) (ts : List Token) (a : A) (from n k : ℕ) (run : take n (drop from (map f (productions ts))) ≡ replicate n a)
    (low : from ≤ k) (high : k < from + n) where
  rows_are : f (production_of ts k) ≡ a
  rows_are = sym (get_or-map f (productions ts) k Production.between) ∙ run_at (map f (productions ts)) (f Production.between) a from n k run low high

-- and of no row's number
module _ {A : Type 0} (f : Production → A) (ts : List Token) (a : A) (from n k : ℕ) (run : take n (drop from (map f (productions ts))) ≡ replicate n a)
    (low : from ≤ k) (size : length (productions ts) ≡ from + n) (last : f Production.between ≡ a) where
  rows-from : f (production_of ts k) ≡ a
  rows-from = go (ltb k (from + n)) refl
    where
      go : (b : Bool) → ltb k (from + n) ≡ b → f (production_of ts k) ≡ a
      go true e = rows_are f ts a from n k run low (ltb-true k (from + n) e)
      go false e =
          ap f (get_or-eq_default (productions ts) Production.between {n = k} (omega (arith, size, ltb-false k (from + n) e))) ∙ last

module _ (ts : List Token) (k : ℕ) where
  pub first_terminal : k < 1 → value_shape (production_of ts k) ≡ ValueShape.Terminal
  first_terminal h = rows_are value_shape ts ValueShape.Terminal 0 1 k refl (omega arith) (omega arith)

  pub lookups : 1 ≤ k → k < 5 → value_shape (production_of ts k) ≡ ValueShape.Lookup
  lookups l h = rows_are value_shape ts ValueShape.Lookup 1 4 k refl (omega arith) (omega arith)

  pub unaries : 5 ≤ k → k < 7 → value_shape (production_of ts k) ≡ ValueShape.Unary
  unaries l h = rows_are value_shape ts ValueShape.Unary 5 2 k refl (omega arith) (omega arith)

  pub binaries : 7 ≤ k → k < 15 → value_shape (production_of ts k) ≡ ValueShape.Binary
  binaries l h = rows_are value_shape ts ValueShape.Binary 7 8 k refl (omega arith) (omega arith)

  pub last_terminals : 15 ≤ k → k < 17 → value_shape (production_of ts k) ≡ ValueShape.Terminal
  last_terminals l h = rows_are value_shape ts ValueShape.Terminal 15 2 k refl (omega arith) (omega arith)

  pub no_values : 17 ≤ k → value_shape (production_of ts k) ≡ ValueShape.NoValue
  no_values l = rows-from value_shape ts ValueShape.NoValue 17 12 k refl l refl refl

  pub no_indexes : k < 17 → index_shape (production_of ts k) ≡ IndexShape.NoIndex
  no_indexes h = rows_are index_shape ts IndexShape.NoIndex 0 17 k refl (omega arith) (omega arith)

  pub index-terminals : 17 ≤ k → k < 19 → index_shape (production_of ts k) ≡ IndexShape.Terminal
  index-terminals l h = rows_are index_shape ts IndexShape.Terminal 17 2 k refl (omega arith) (omega arith)

  pub plains : 19 ≤ k → k < 21 → index_shape (production_of ts k) ≡ IndexShape.Plain
  plains l h = rows_are index_shape ts IndexShape.Plain 19 2 k refl (omega arith) (omega arith)

  pub converteds : 21 ≤ k → k < 23 → index_shape (production_of ts k) ≡ IndexShape.Converted
  converteds l h = rows_are index_shape ts IndexShape.Converted 21 2 k refl (omega arith) (omega arith)

  pub no_more_indexes : 23 ≤ k → index_shape (production_of ts k) ≡ IndexShape.NoIndex
  no_more_indexes l = rows-from index_shape ts IndexShape.NoIndex 23 6 k refl l refl refl

  pub no_comparisons : k < 24 → is_comparison (production_of ts k) ≡ false
  no_comparisons h = rows_are is_comparison ts false 0 24 k refl (omega arith) (omega arith)

  pub no_more_rows : 29 ≤ k → is_comparison (production_of ts k) ≡ false
  no_more_rows h = ap is_comparison (get_or-eq_default (productions ts) Production.between {n = k} h)

  pub comparisons : 24 ≤ k → k < 29 → is_comparison (production_of ts k) ≡ true
  comparisons l h = rows_are is_comparison ts true 24 5 k refl (omega arith) (omega arith)
