-- What Write wrote into lists of fields is, stored as records, what it owes of the records (`stored`).
use Prim.Native.Nat.{ℕ, zero, suc, ◌≤◌}
use mathlib.Core.Path.{◌≡◌, refl, ap, ◌∙◌}
use mathlib.Core.List.{List, [], ◌∷◌, ◌++◌, append_assoc, map, map-append}
use native.Mathlib.Omega.{arith}
use lib.ListN.{length, take, drop, length-append, length-map}
use lib.Seq.{drop_at, length-take-le, take_at}
use Rattle.slices.specs.Bytes.{over}
use Rattle.semantics.specs.Records.{Records}
use Rattle.semantics.specs.Token.{Token}
use Rattle.semantics.specs.Write.{Writing, keys_of, leaves, place_in}
use Rattle.semantics.proofs.Room.{count_of}
use Rattle.records.specs.declared.TokenRecord.{TokenRecord}
use Rattle.records.specs.Fields.{fields_of, kinds_of, numbers_of, places_of, records_from}
use Rattle.records.proofs.Onto.{onto, records_many}

-- records that have these fields
record Fields (rs : List TokenRecord) (ks ns ps : List ℕ) : Type 0 where
  kinds : kinds_of rs ≡ ks
  numbers : numbers_of rs ≡ ns
  places : places_of rs ≡ ps

next : (k n p : ℕ) (rs : List TokenRecord) (ks ns ps : List ℕ) → Fields rs ks ns ps
    → Fields (record { kind = k; number = n; place = p } ∷ rs) (k ∷ ks) (n ∷ ns) (p ∷ ps)
next k n p rs ks ns ps f =
    record {
      kinds = ap (λ (l : List ℕ). k ∷ l) f.kinds;
      numbers = ap (λ (l : List ℕ). n ∷ l) f.numbers;
      places = ap (λ (l : List ℕ). p ∷ l) f.places;
    }

fields_from : (m : ℕ) (ks ns ps : List ℕ) → m ≤ length ks → m ≤ length ns → m ≤ length ps
    → Fields (take m (records_from ks ns ps)) (take m ks) (take m ns) (take m ps)
fields_from zero ks ns ps h i j = record { kinds = refl; numbers = refl; places = refl }
fields_from (suc m) [] ns ps h i j = absurd (omega arith)
fields_from (suc m) (k ∷ ks) [] ps h i j = absurd (omega arith)
fields_from (suc m) (k ∷ ks) (n ∷ ns) [] h i j = absurd (omega arith)
fields_from (suc m) (k ∷ ks) (n ∷ ns) (p ∷ ps) h i j =
    next k n p (take m (records_from ks ns ps)) (take m ks) (take m ns) (take m ps)
    (fields_from m ks ns ps (omega arith) (omega arith) (omega arith))

-- a field of records, of which the first m were stored
field_stored : (f : TokenRecord → ℕ) (m : ℕ) (us rs : List TokenRecord) (xs : List ℕ) → map f (take m us) ≡ xs
    → map f (onto m us rs) ≡ xs ++ drop m (map f rs)
field_stored f m us rs xs e =
    map-append f (take m us) (drop m rs) ∙ ap (λ (l : List ℕ). map f (take m us) ++ l) (dropped m rs) ∙ ap (λ (l : List ℕ). l ++ drop m (map f rs)) e
  where
    dropped : (m : ℕ) (rs : List TokenRecord) → map f (drop m rs) ≡ drop m (map f rs)
    dropped zero rs = refl
    dropped (suc m) [] = refl
    dropped (suc m) (r ∷ rs) = dropped m rs

-- a field of the tokens, written at the front of a list that goes on behind it
written-front : (f : Token → ℕ) (ts : List Token) (old rest : List ℕ) → take (length ts) (over (map f ts) old ++ rest) ≡ map f ts
written-front f ts old rest =
    ap (take (length ts)) (append_assoc (map f ts) (drop (length (map f ts)) old) rest)
    ∙ take_at (map f ts) (drop (length (map f ts)) old ++ rest) (length ts) (length-map ts f)

written_long : (f : Token → ℕ) (ts : List Token) (old rest : List ℕ) → length ts ≤ length (over (map f ts) old ++ rest)
written_long f ts old rest = simp (length-append, length-map) (omega arith)

module _ (rs : List TokenRecord) (old new : Records) (kinds numbers places : List ℕ) where
  -- the lists of fields begin with what was written
  abbrev pub storing : ℕ → List TokenRecord
  storing m = onto m (records_from (new.kinds ++ kinds) (new.numbers ++ numbers) (new.places ++ places)) rs

  module _ (ts : List Token) (w : new ≡ leaves (Writing.writes ts) old) where
    -- a column of what was written, with more behind it
    fronted : (f : Token → ℕ) (x y more : List ℕ) → x ≡ over (map f ts) y → (take (length ts) (x ++ more) ≡ map f ts) × (length ts ≤ length (x ++ more))
    fronted f x y more e = rw e (written-front f ts y more, written_long f ts y more)

    kinds_are : (take (length ts) (new.kinds ++ kinds) ≡ map (λ t. t.kind) ts) × (length ts ≤ length (new.kinds ++ kinds))
    kinds_are = fronted (λ t. t.kind) new.kinds old.kinds kinds (ap (λ (r : Records). r.kinds) w)

    numbers_are : (take (length ts) (new.numbers ++ numbers) ≡ map (λ t. t.number) ts) × (length ts ≤ length (new.numbers ++ numbers))
    numbers_are = fronted (λ t. t.number) new.numbers old.numbers numbers (ap (λ (r : Records). r.numbers) w)

    places_are : (take (length ts) (new.places ++ places) ≡ map (place_in (keys_of ts)) ts) × (length ts ≤ length (new.places ++ places))
    places_are = fronted (place_in (keys_of ts)) new.places old.places places (ap (λ (r : Records). r.places) w)

    records_stored : fields_of (storing (length ts)) new.keys ≡ leaves (Writing.writes ts) (fields_of rs old.keys)
    records_stored =
        let m = length ts in
        let us = records_from (new.kinds ++ kinds) (new.numbers ++ numbers) (new.places ++ places) in
        let f = fields_from m (new.kinds ++ kinds) (new.numbers ++ numbers) (new.places ++ places) kinds_are.1 numbers_are.1 places_are.1 in
        let k : kinds_of (storing m) ≡ over (map (λ t. t.kind) ts) (kinds_of rs) = rw length-map (field_stored (λ r. r.kind) m us rs (map (λ t. t.kind) ts) (f.kinds ∙ kinds_are.0)) in
        let n : numbers_of (storing m) ≡ over (map (λ t. t.number) ts) (numbers_of rs) = rw length-map (field_stored (λ r. r.number) m us rs (map (λ t. t.number) ts) (f.numbers ∙ numbers_are.0)) in
        let p : places_of (storing m) ≡ over (map (place_in (keys_of ts)) ts) (places_of rs) = rw length-map (field_stored (λ r. r.place) m us rs (map (place_in (keys_of ts)) ts) (f.places ∙ places_are.0)) in
        λ i. record { kinds = k i; numbers = n i; places = p i; keys = ap (λ (r : Records). r.keys) w i }

  pub stored_kept : (w : Writing) → new ≡ leaves w old → drop (count_of w) (storing (count_of w)) ≡ drop (count_of w) rs
  stored_kept (Writing.refused r) e = refl
  stored_kept (Writing.writes ts) e =
      let m = length ts in
      let us = records_from (new.kinds ++ kinds) (new.numbers ++ numbers) (new.places ++ places) in
      let long = records_many (new.kinds ++ kinds) (new.numbers ++ numbers) (new.places ++ places) m (kinds_are ts e).1 (numbers_are ts e).1 (places_are ts e).1 in
      drop_at (take m us) (drop m rs) m (length-take-le m us long)

  pub stored : (w : Writing) → new ≡ leaves w old → fields_of (storing (count_of w)) new.keys ≡ leaves w (fields_of rs old.keys)
  stored (Writing.refused r) e = rw e
  stored (Writing.writes ts) e = records_stored ts e
