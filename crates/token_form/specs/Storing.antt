-- What tokens leave in the columns of the lent records.
use Rattle.std.specs.Prelude.{ℕ, ◌≤◌, ◌≡◌, List, map, length}
use Rattle.slices.specs.Bytes.{over}
use Rattle.semantics.specs.Operations.{Token}
use Rattle.semantics.specs.Write.{place_in}

-- the columns of lent records
pub record Columns : Type 0 where
  pub kinds : List ℕ
  pub numbers : List ℕ
  pub places : List ℕ

abbrev pub columns_of : List ℕ → List ℕ → List ℕ → Columns
columns_of kinds numbers places = record { kinds = kinds; numbers = numbers; places = places }

-- there is room for the tokens ts
pub record Room (ts : List Token) (r : Columns) : Type 0 where
  pub kinds : length ts ≤ length r.kinds
  pub numbers : length ts ≤ length r.numbers
  pub places : length ts ≤ length r.places

-- the tokens ts, with keys that stand as in ks, are written over the front of the columns; the rest is kept
pub record Stored (ts : List Token) (ks : List (List ℕ)) (old new : Columns) : Type 0 where
  pub kinds : new.kinds ≡ over (map (λ t. t.kind) ts) old.kinds
  pub numbers : new.numbers ≡ over (map (λ t. t.number) ts) old.numbers
  pub places : new.places ≡ over (map (place_in ks) ts) old.places
