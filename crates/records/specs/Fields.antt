-- The fields of token records, as the lists that the definitions go by.
use Rattle.std.specs.Prelude.{ℕ, List, [], ◌∷◌, map}
use Rattle.semantics.specs.Records.{Records, records_of}
use Rattle.records.specs.declared.TokenRecord.{TokenRecord}

abbrev pub kinds_of : List TokenRecord → List ℕ
kinds_of rs = map (λ (r : TokenRecord). r.kind) rs

abbrev pub numbers_of : List TokenRecord → List ℕ
numbers_of rs = map (λ (r : TokenRecord). r.number) rs

abbrev pub places_of : List TokenRecord → List ℕ
places_of rs = map (λ (r : TokenRecord). r.place) rs

-- the fields of records, with the bytes of the keys
abbrev pub fields_of : List TokenRecord → List ℕ → Records
fields_of rs keys = records_of (kinds_of rs) (numbers_of rs) (places_of rs) keys

-- the records that have these fields, as many as the shortest list has
abbrev pub records_from : List ℕ → List ℕ → List ℕ → List TokenRecord
records_from [] ns ps = []
records_from (k ∷ ks) [] ps = []
records_from (k ∷ ks) (n ∷ ns) [] = []
records_from (k ∷ ks) (n ∷ ns) (p ∷ ps) = record { kind = k; number = n; place = p } ∷ records_from ks ns ps
