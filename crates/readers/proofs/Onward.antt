-- A turn of the readers' loops: what is read of so many expressions, by the row that the tokens before a place end with.
use Prim.Native.Nat.{ℕ, zero, suc, ◌+◌, ◌-◌, ◌<◌, ◌≤◌}
use mathlib.Core.Bool.{Bool, true, false}
use mathlib.Core.Path.{◌≡◌, refl, sym, ap, ◌∙◌}
use mathlib.Core.List.{List, [], ◌∷◌, ◌++◌, reverse}
use native.Mathlib.Omega.{arith}
use native.Mathlib.Numerals.{add-one}
use Rattle.slices.specs.Bytes.{bytes_value}
use Rattle.semantics.specs.Operations.{Token, idx_row}
use Rattle.semantics.specs.declared.IdxOp.{IdxOp}
use Rattle.semantics.specs.Records.{Records, token_at}
use Rattle.semantics.specs.FromTokens.{Found, expr_from_tokens, found, from_tokens, idx_between, idx_from_tokens, nothing}
use Rattle.semantics.proofs.Find.{Reads, find_sound}
use Rattle.productions.specs.Before.{before}
use Rattle.productions.specs.Ending.{Production, ending, ends, last_row, production_of, row_found, rows}
use Rattle.productions.proofs.Shapes.{IndexShape, ValueShape, index_shape, value_shape}
use Rattle.productions.proofs.Tokens.{recorded}
use Rattle.productions.proofs.Places.{At}
use Rattle.productions.proofs.Endings.{is_comparison, last_row_sound}
use Rattle.productions.proofs.Table.{binaries, comparisons, converteds, first_terminal, index-terminals, last_terminals, lookups, no_comparisons, no_indexes, no_more_indexes, no_more_rows, no_values, plains, unaries}
use Rattle.readers.specs.declared.Reading.{Reading}
use Rattle.readers.specs.Readings.{reading_of}
use Rattle.readers.proofs.Steps.{condition-step, condition_by, condition_seen, go_on, index_on, index-step, index_by, index_seen, no_reading, reading_on, stop, value_on, value-step, value_by, value_seen}

-- so many expressions, each before the one behind it
abbrev pub indexes : ℕ → List Token → Reading
indexes zero ts = stop ts
indexes (suc n) ts = go_on (idx_from_tokens ts) (indexes n)

abbrev pub values : ℕ → List Token → Reading
values zero ts = stop ts
values (suc n) ts = go_on (expr_from_tokens ts) (values n)

pub index_one : (ts : List Token) → indexes 1 ts ≡ reading_of (idx_from_tokens ts)
index_one ts = sym (reading_on (idx_from_tokens ts))

pub value_one : (ts : List Token) → values 1 ts ≡ reading_of (expr_from_tokens ts)
value_one ts = sym (reading_on (expr_from_tokens ts))

-- a row that is none of the reader's
module _ (seen : List Token → Found ℕ → Reading) (ts : List Token) (k : ℕ)
    (found-by : (r : List Token) → seen ts (found k r) ≡ Reading.Nothing) (none-by : seen ts nothing ≡ Reading.Nothing) where
  not_seen : k ≡ row_found (last_row ts) → seen ts (last_row ts) ≡ Reading.Nothing
  not_seen e = go (last_row ts) e
    where
      go : (g : Found ℕ) → k ≡ row_found g → seen ts g ≡ Reading.Nothing
      go (found j r) f = ap (λ (n : ℕ). seen ts (found n r)) (sym f) ∙ found-by r
      go nothing f = none-by

-- ScriptNumToLe64 between two operands, by its row
between_is : (ts : List Token) (f : List Token → Reading) → go_on (idx_between IdxOp.Mul (ending Production.between ++ ts)) f ≡ f ts
unfolding ending
between_is ts f = refl

between_own : (r : List Token) → row_found (last_row (ending Production.between ++ r)) ≡ 23
unfolding last_row ending rows ends bytes_value
between_own r = refl

between_not : (ts : List Token) (k : ℕ) → k ≡ row_found (last_row ts) → (k ≡ 23 → ⊥) → (f : List Token → Reading) → go_on (idx_between IdxOp.Mul ts) f ≡ Reading.Nothing
unfolding ending
between_not ts k e n f = go (idx_between IdxOp.Mul ts) (find_sound (λ _. reverse (idx_row IdxOp.Mul).between) (tt {0} ∷ []) ts)
  where
    go : (g : Found (Unit {0})) → Reads (λ _ r. reverse (idx_row IdxOp.Mul).between ++ r) g ts → go_on g f ≡ Reading.Nothing
    go (found u r) s = absurd (n (e ∙ ap (λ (l : List Token). row_found (last_row l)) s ∙ between_own r))
    go nothing s = refl

-- index expressions
module _ (r : Records) (end k : ℕ) (row : k ≡ row_found (last_row (before (token_at r) end))) where
  index_no : index_shape (production_of (before (token_at r) end) k) ≡ IndexShape.NoIndex → (n : ℕ) → 0 < n → Reading.Nothing ≡ indexes n (before (token_at r) end)
  index_no e zero h = absurd (omega arith)
  index_no e (suc n) h =
      let ts : List Token = before (token_at r) end in
      sym (index-step ts (recorded r end) (indexes n) ∙ not_seen (index_seen (indexes n)) ts k (λ rest. ap (λ (s : IndexShape). index_by s rest (indexes n)) e) refl row)

  pub index-before : k < 17 → (n : ℕ) → 0 < n → Reading.Nothing ≡ indexes n (before (token_at r) end)
  index-before h = index_no (no_indexes (before (token_at r) end) k h)

  pub index_beyond : 23 ≤ k → (n : ℕ) → 0 < n → Reading.Nothing ≡ indexes n (before (token_at r) end)
  index_beyond h = index_no (no_more_indexes (before (token_at r) end) k h)

module _ (r : Records) (end k start : ℕ) (at : At (token_at r) end k start) where
  index_by_lem : (shape : IndexShape) → index_shape (production_of (before (token_at r) end) k) ≡ shape → (f : List Token → Reading)
      → go_on (idx_from_tokens (before (token_at r) end)) f ≡ index_by shape (before (token_at r) start) f
  index_by_lem shape is f =
      index-step (before (token_at r) end) (recorded r end) f ∙ ap (index_seen f (before (token_at r) end)) at.is
      ∙ ap (λ (s : IndexShape). index_by s (before (token_at r) start) f) is

  pub index_terminal : 17 ≤ k → k < 19 → (n : ℕ) → 0 < n → indexes n (before (token_at r) end) ≡ indexes (n - 1) (before (token_at r) start)
  index_terminal l h zero p = absurd (omega arith)
  index_terminal l h (suc n) p =
      let e : suc n - 1 ≡ n = omega arith in rw e (index_by_lem IndexShape.Terminal (index-terminals (before (token_at r) end) k l h) (indexes n))

  pub index_plain : 19 ≤ k → k < 21 → (n : ℕ) → 0 < n → indexes n (before (token_at r) end) ≡ indexes (n + 1) (before (token_at r) start)
  index_plain l h zero p = absurd (omega arith)
  index_plain l h (suc n) p = rw (add-one (suc n)) (index_by_lem IndexShape.Plain (plains (before (token_at r) end) k l h) (indexes n))

  -- x is what is told of the right operand
  module _ (l : 21 ≤ k) (h : k < 23) (x : Reading) (right : x ≡ reading_of (idx_from_tokens (before (token_at r) start))) where
    converted : (f : List Token → Reading) → go_on (idx_from_tokens (before (token_at r) end)) f ≡ index_by IndexShape.Converted (before (token_at r) start) f
    converted f = index_by_lem IndexShape.Converted (converteds (before (token_at r) end) k l h) f

    pub converted_none : x ≡ Reading.Nothing → (n : ℕ) → 0 < n → Reading.Nothing ≡ indexes n (before (token_at r) end)
    converted_none e zero p = absurd (omega arith)
    converted_none e (suc n) p = sym (converted (indexes n) ∙ no_reading (idx_from_tokens (before (token_at r) start)) _ (sym e ∙ right))

    module _ (middle : ℕ) (there : x ≡ Reading.Read middle) (j : ℕ) (row : j ≡ row_found (last_row (before (token_at r) middle))) where
      pub unconverted : (j ≡ 23 → ⊥) → (n : ℕ) → 0 < n → Reading.Nothing ≡ indexes n (before (token_at r) end)
      unconverted e zero p = absurd (omega arith)
      unconverted e (suc n) p =
          sym (converted (indexes n) ∙ index_on (token_at r) start middle (sym there ∙ right) _ ∙ between_not (before (token_at r) middle) j row e _)

      pub converted-left : (begin : ℕ) → At (token_at r) middle 23 begin → (n : ℕ) → 0 < n → indexes n (before (token_at r) end) ≡ indexes n (before (token_at r) begin)
      converted-left begin b zero p = absurd (omega arith)
      converted-left begin b (suc n) p =
          let ts : List Token = before (token_at r) middle in
          let is : ts ≡ ending Production.between ++ before (token_at r) begin = last_row_sound ts (recorded r middle) 23 _ b.is in
          let go : List Token → Reading = λ r₂. go_on (idx_from_tokens r₂) (indexes n) in
          converted (indexes n) ∙ index_on (token_at r) start middle (sym there ∙ right) _
          ∙ ap (λ (l : List Token). go_on (idx_between IdxOp.Mul l) go) is ∙ between_is (before (token_at r) begin) go

-- value expressions
module _ (r : Records) (end k : ℕ) (row : k ≡ row_found (last_row (before (token_at r) end))) where
  pub value_beyond : 17 ≤ k → (n : ℕ) → 0 < n → Reading.Nothing ≡ values n (before (token_at r) end)
  value_beyond h zero p = absurd (omega arith)
  value_beyond h (suc n) p =
      let ts : List Token = before (token_at r) end in
      sym (value-step ts (recorded r end) (values n) ∙ not_seen (value_seen (values n)) ts k (λ rest. ap (λ (s : ValueShape). value_by s rest (values n)) (no_values ts k h)) refl row)

module _ (r : Records) (end k start : ℕ) (at : At (token_at r) end k start) where
  value_by_lem : (shape : ValueShape) → value_shape (production_of (before (token_at r) end) k) ≡ shape → (f : List Token → Reading)
      → go_on (expr_from_tokens (before (token_at r) end)) f ≡ value_by shape (before (token_at r) start) f
  value_by_lem shape is f =
      value-step (before (token_at r) end) (recorded r end) f ∙ ap (value_seen f (before (token_at r) end)) at.is
      ∙ ap (λ (s : ValueShape). value_by s (before (token_at r) start) f) is

  terminal : value_shape (production_of (before (token_at r) end) k) ≡ ValueShape.Terminal → (n : ℕ) → 0 < n
      → values n (before (token_at r) end) ≡ values (n - 1) (before (token_at r) start)
  terminal is zero p = absurd (omega arith)
  terminal is (suc n) p = let e : suc n - 1 ≡ n = omega arith in rw e (value_by_lem ValueShape.Terminal is (values n))

  pub value-const : k < 1 → (n : ℕ) → 0 < n → values n (before (token_at r) end) ≡ values (n - 1) (before (token_at r) start)
  value-const h = terminal (first_terminal (before (token_at r) end) k h)

  pub value-oracle : 15 ≤ k → k < 17 → (n : ℕ) → 0 < n → values n (before (token_at r) end) ≡ values (n - 1) (before (token_at r) start)
  value-oracle l h = terminal (last_terminals (before (token_at r) end) k l h)

  pub value_unary : 5 ≤ k → k < 7 → (n : ℕ) → 0 < n → values n (before (token_at r) end) ≡ values n (before (token_at r) start)
  value_unary l h zero p = absurd (omega arith)
  value_unary l h (suc n) p = value_by_lem ValueShape.Unary (unaries (before (token_at r) end) k l h) (values n)

  pub value-counted : 7 ≤ k → k < 15 → (n : ℕ) → 0 < n → values n (before (token_at r) end) ≡ values (n + 1) (before (token_at r) start)
  value-counted l h zero p = absurd (omega arith)
  value-counted l h (suc n) p = rw (add-one (suc n)) (value_by_lem ValueShape.Binary (binaries (before (token_at r) end) k l h) (values n))

  -- x is what is told of the index
  module _ (l : 1 ≤ k) (h : k < 5) (x : Reading) (right : x ≡ reading_of (idx_from_tokens (before (token_at r) start))) where
    pub lookup_none : x ≡ Reading.Nothing → (n : ℕ) → 0 < n → Reading.Nothing ≡ values n (before (token_at r) end)
    lookup_none e zero p = absurd (omega arith)
    lookup_none e (suc n) p =
        sym (value_by_lem ValueShape.Lookup (lookups (before (token_at r) end) k l h) (values n) ∙ no_reading (idx_from_tokens (before (token_at r) start)) _ (sym e ∙ right))

    pub lookup_read : (middle : ℕ) → x ≡ Reading.Read middle → (n : ℕ) → 0 < n → values n (before (token_at r) end) ≡ values (n - 1) (before (token_at r) middle)
    lookup_read middle there zero p = absurd (omega arith)
    lookup_read middle there (suc n) p =
        let e : suc n - 1 ≡ n = omega arith in
        rw e (value_by_lem ValueShape.Lookup (lookups (before (token_at r) end) k l h) (values n) ∙ index_on (token_at r) start middle (sym there ∙ right) (values n))

  -- and of the right operand
  module _ (l : 7 ≤ k) (h : k < 15) (x : Reading) (right : x ≡ reading_of (expr_from_tokens (before (token_at r) start))) where
    pub binary_none : x ≡ Reading.Nothing → (n : ℕ) → 0 < n → Reading.Nothing ≡ values n (before (token_at r) end)
    binary_none e zero p = absurd (omega arith)
    binary_none e (suc n) p =
        sym (value_by_lem ValueShape.Binary (binaries (before (token_at r) end) k l h) (values n) ∙ no_reading (expr_from_tokens (before (token_at r) start)) _ (sym e ∙ right))

    pub binary_left : (middle : ℕ) → x ≡ Reading.Read middle → (n : ℕ) → 0 < n → values n (before (token_at r) end) ≡ values n (before (token_at r) middle)
    binary_left middle there zero p = absurd (omega arith)
    binary_left middle there (suc n) p =
        value_by_lem ValueShape.Binary (binaries (before (token_at r) end) k l h) (values n) ∙ value_on (token_at r) start middle (sym there ∙ right) _

-- conditions
module _ (r : Records) (end k : ℕ) (row : k ≡ row_found (last_row (before (token_at r) end))) where
  condition_no : is_comparison (production_of (before (token_at r) end) k) ≡ false → Reading.Nothing ≡ reading_of (from_tokens (before (token_at r) end))
  condition_no e =
      let ts : List Token = before (token_at r) end in
      sym (condition-step ts (recorded r end) ∙ not_seen condition_seen ts k (λ rest. ap (λ (b : Bool). condition_by b rest) e) refl row)

  pub condition-before : k < 24 → Reading.Nothing ≡ reading_of (from_tokens (before (token_at r) end))
  condition-before h = condition_no (no_comparisons (before (token_at r) end) k h)

  pub condition_beyond : 29 ≤ k → Reading.Nothing ≡ reading_of (from_tokens (before (token_at r) end))
  condition_beyond h = condition_no (no_more_rows (before (token_at r) end) k h)

module _ (r : Records) (end k start : ℕ) (at : At (token_at r) end k start) (l : 24 ≤ k) (x : Reading) (right : x ≡ reading_of (expr_from_tokens (before (token_at r) start))) where
  compared : reading_of (from_tokens (before (token_at r) end)) ≡ condition_by true (before (token_at r) start)
  compared =
      condition-step (before (token_at r) end) (recorded r end) ∙ ap (condition_seen (before (token_at r) end)) at.is
      ∙ ap (λ (b : Bool). condition_by b (before (token_at r) start)) (comparisons (before (token_at r) end) k l at.row)

  pub compared_none : x ≡ Reading.Nothing → Reading.Nothing ≡ reading_of (from_tokens (before (token_at r) end))
  compared_none n = sym (compared ∙ no_reading (expr_from_tokens (before (token_at r) start)) _ (sym n ∙ right))

  pub compared-left : (middle : ℕ) → x ≡ Reading.Read middle → (y : Reading) → y ≡ reading_of (expr_from_tokens (before (token_at r) middle))
      → y ≡ reading_of (from_tokens (before (token_at r) end))
  compared-left middle there y e =
      e ∙ reading_on (expr_from_tokens (before (token_at r) middle)) ∙ sym (compared ∙ value_on (token_at r) start middle (sym there ∙ right) _)
