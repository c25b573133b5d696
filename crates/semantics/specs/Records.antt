-- Token records, as kinds, numbers and places, with the bytes of the keys: "a lent slice of records with three fields".
use Rattle.std.specs.Prelude.{ℕ, zero, suc, ◌+◌, ◌^◌, Bool, ◌&&◌, ◌||◌, not, cond, List, [], ◌∷◌, length, get_or, take, drop, eqb, leb, ltb}
use Rattle.std.proofs.Math.Option.{Option, none, some}
use Rattle.semantics.specs.Token.{Token}

pub record Records : Type 0 where
  pub kinds : List ℕ
  pub numbers : List ℕ
  pub places : List ℕ
  pub keys : List ℕ

-- as lent slices
abbrev pub records_of : List ℕ → List ℕ → List ℕ → List ℕ → Records
records_of kinds numbers places keys = record { kinds = kinds; numbers = numbers; places = places; keys = keys }

-- the 32 key bytes at a record's place
abbrev pub key_of : Records → ℕ → List ℕ
key_of r i = take 32 (drop (get_or r.places i 0) r.keys)

-- "Other unused fields are ignored": a Num and a Bytes8 have a number, a Bytes32 has a key
abbrev pub token_of : ℕ → ℕ → List ℕ → Token
token_of kind number key =
    record { kind = kind; number = cond (eqb kind 1 || eqb kind 2) number 0; key = cond (eqb kind 3) key [] }

abbrev pub token_at : Records → ℕ → Token
token_at r i = token_of (get_or r.kinds i 0) (get_or r.numbers i 0) (key_of r i)

-- the tokens of k records from i on; there are as many records as kinds
unfoldable pub tokens_from : Records → ℕ → ℕ → List Token
tokens_from r i zero = []
tokens_from r i (suc k) = token_at r i ∷ tokens_from r (suc i) k

abbrev pub tokens : Records → List Token
tokens r = tokens_from r 0 (length r.kinds)

-- "Unsound: kind over 35, Num of 2^32 or more, or a Bytes32 whose 32 bytes pass the key slice"; or a field that is not there
abbrev pub sound_at : Records → ℕ → Bool
sound_at r i =
    let kind = get_or r.kinds i 0 in
    ltb i (length r.numbers) && ltb i (length r.places) && leb kind 35
    && (not (eqb kind 1) || ltb (get_or r.numbers i 0) (2 ^ 32)) && (not (eqb kind 3) || leb (get_or r.places i 0 + 32) (length r.keys))

-- "9, token": the first unsound one of k records from i on
unfoldable pub unsound_from : Records → ℕ → ℕ → Option ℕ
unsound_from r i zero = none
unsound_from r i (suc k) = cond (sound_at r i) (unsound_from r (suc i) k) (some i)

abbrev pub unsound : Records → Option ℕ
unsound r = unsound_from r 0 (length r.kinds)
