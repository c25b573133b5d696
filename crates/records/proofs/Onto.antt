-- Records and fields that a loop has copied to the front of a list, one place after the other.
use Prim.Native.Nat.{ℕ, zero, suc, ◌<◌, ◌≤◌}
use mathlib.Core.Path.{◌≡◌, refl, sym, ◌∙◌, ap}
use mathlib.Core.List.{List, [], ◌∷◌, ◌++◌, append-nil, map}
use native.Mathlib.Nat.{zero-add}
use native.Mathlib.Omega.{arith}
use lib.Seq.{get_or-take, length-paste, paste-suc}
use lib.ListN.{length, get_or, set, take, drop, drop_of_length-le, length-map, get_or-map}
use Rattle.records.specs.declared.TokenRecord.{TokenRecord}
use Rattle.records.specs.Fields.{records_from}

-- ys, with the first n of xs in the place of its own first n: `paste` at 0
abbrev pub onto : {A : Type 0} → ℕ → List A → List A → List A
onto n xs ys = take n xs ++ drop n ys

-- what is read past the end
abbrev pub blank : TokenRecord
blank = record { kind = 0; number = 0; place = 0 }

pub onto-step : {A : Type 0} (i : ℕ) (xs ys : List A) (d : A) → i < length xs → i < length ys → set (onto i xs ys) i (get_or xs i d) ≡ onto (suc i) xs ys
onto-step i xs ys d l m = simp zero-add at (paste-suc ys 0 xs i d (omega arith) l)

pub onto-length : {A : Type 0} (i : ℕ) (xs ys : List A) → i ≤ length xs → i ≤ length ys → length (onto i xs ys) ≡ length ys
onto-length i xs ys l m = simp zero-add at (length-paste ys 0 xs i (omega arith) l)

-- all of the first n, whose list they then are
pub onto_whole : {A : Type 0} (i n : ℕ) (xs ys : List A) → length (take n ys) ≡ n → i ≡ n → onto i xs (take n ys) ≡ take n xs
onto_whole i n xs ys l e = rw (e, drop_of_length-le (take n ys) {i = n} (omega arith), append-nil)

-- fields: element i is the field of record i, of the first n
pub field_step : (f : TokenRecord → ℕ) (n : ℕ) (rs : List TokenRecord) (ys : List ℕ) (i : ℕ) → i < n → i < length rs → i < length ys
    → set (onto i (map f rs) ys) i (f (get_or (take n rs) i blank)) ≡ onto (suc i) (map f rs) ys
field_step f n rs ys i h l m =
    rw (get_or-take n rs i blank h)
    (ap (λ (z : ℕ). set (onto i (map f rs) ys) i z) (sym (get_or-map f rs i blank)) ∙ onto-step i (map f rs) ys (f blank) (rw length-map l) m)

pub field_length : (f : TokenRecord → ℕ) (rs : List TokenRecord) (ys : List ℕ) (i : ℕ) → i ≤ length rs → i ≤ length ys
    → length (onto i (map f rs) ys) ≡ length ys
field_length f rs ys i l m = onto-length i (map f rs) ys (rw length-map l) m

-- records: record i has the fields i
pub record_at : (ks ns ps : List ℕ) (i : ℕ) → i < length ks → i < length ns → i < length ps
    → get_or (records_from ks ns ps) i blank ≡ record { kind = get_or ks i 0; number = get_or ns i 0; place = get_or ps i 0 }
record_at [] ns ps i l m n = absurd (omega arith)
record_at (k ∷ ks) [] ps i l m n = absurd (omega arith)
record_at (k ∷ ks) (x ∷ ns) [] i l m n = absurd (omega arith)
record_at (k ∷ ks) (x ∷ ns) (p ∷ ps) zero l m n = refl
record_at (k ∷ ks) (x ∷ ns) (p ∷ ps) (suc i) l m n = record_at ks ns ps i (omega arith) (omega arith) (omega arith)

pub records_many : (ks ns ps : List ℕ) (i : ℕ) → i ≤ length ks → i ≤ length ns → i ≤ length ps → i ≤ length (records_from ks ns ps)
records_many [] ns ps i l m n = l
records_many (k ∷ ks) [] ps i l m n = m
records_many (k ∷ ks) (x ∷ ns) [] i l m n = n
records_many (k ∷ ks) (x ∷ ns) (p ∷ ps) zero l m n = omega arith
records_many (k ∷ ks) (x ∷ ns) (p ∷ ps) (suc i) l m n = omega (arith, records_many ks ns ps i (omega arith) (omega arith) (omega arith))
