-- WRITE, of the contents of its slices: what it answers, and what the lent records and key bytes are then.
use Rattle.std.specs.Prelude.{ℕ, suc, ◌*◌, Bool, ◌&&◌, cond, List, [], ◌∷◌, ◌++◌, map, length, eqb, leb, ltb, Result, Ok, Err}
use Rattle.std.proofs.Math.Option.{Option, none, some}
use Rattle.slices.specs.Bytes.{over}
use Rattle.semantics.specs.Refusals.{Refusal, first_of, unless}
use Rattle.semantics.specs.Token.{Token, form, narrow}
use Rattle.semantics.specs.Check.{Condition, condition}
use Rattle.semantics.specs.FromTokens.{same_bytes}
use Rattle.semantics.specs.Records.{Records}
pub use Rattle.semantics.specs.declared.Written.{Written}

-- R-5: "Keys now stand in order of the first token that names them; equal keys are stored once."

-- how many keys stand before the first that is `key`: all of them where none is
unfoldable pub index_of : List ℕ → List (List ℕ) → ℕ
index_of key [] = 0
index_of key (k ∷ ks) = cond (same_bytes k key) 0 (suc (index_of key ks))

-- a key more at the end, unless it is there
unfoldable pub with_key : List (List ℕ) → List ℕ → List (List ℕ)
with_key ks key = cond (ltb (index_of key ks) (length ks)) ks (ks ++ key ∷ [])

-- and the key that a token names, if it does: a Bytes32 names one
abbrev pub with_token : List (List ℕ) → Token → List (List ℕ)
with_token ks t = cond (eqb t.kind 3) (with_key ks t.key) ks

-- the keys that tokens name, behind those that stand already
unfoldable pub keys_from : List (List ℕ) → List Token → List (List ℕ)
keys_from ks [] = ks
keys_from ks (t ∷ ts) = keys_from (with_token ks t) ts

abbrev pub keys_of : List Token → List (List ℕ)
keys_of ts = keys_from [] ts

-- the key bytes: one key after the other
unfoldable pub joined : List (List ℕ) → List ℕ
joined [] = []
joined (k ∷ ks) = k ++ joined ks

-- the place of a token's record: where its key begins; "Other unused fields are .. written as 0"
abbrev pub place_in : List (List ℕ) → Token → ℕ
place_in ks t = cond (eqb t.kind 3) (32 * index_of t.key ks) 0

-- 7: "fewer records than tokens, or under 32 × n key bytes"; R-5: "Write's buffer need counts distinct keys"
abbrev pub room_for : ℕ → ℕ → Records → Bool
room_for tokens n old =
    leb tokens (length old.kinds) && leb tokens (length old.numbers) && leb tokens (length old.places)
    && leb (32 * n) (length old.keys)

-- the tokens that are written, or a refusal
pub data Writing : Type 0 where
  refused : Refusal → Writing
  writes : List Token → Writing

abbrev pub writes_unless : Option Refusal → List Token → Writing
writes_unless none ts = Writing.writes ts
writes_unless (some r) ts = Writing.refused r

-- "then 6 in Write", "then 7"
abbrev pub writing_form : List Token → Records → Writing
writing_form ts old =
    writes_unless
    (first_of (unless (narrow ts) Refusal.IndexConstTooLarge ∷ unless (room_for (length ts) (length (keys_of ts)) old) Refusal.BufferTooShort ∷ []))
    ts

abbrev pub writing_by : Condition → Records → Writing
writing_by (Condition.refused r) old = Writing.refused r
writing_by (Condition.passed a) old = writing_form (form a) old

unfoldable pub writing : List ℕ → Records → Writing
writing b old = writing_by (condition b) old

-- "Write the records and key bytes written"
abbrev pub written : Writing → Result Written Refusal
written (Writing.refused r) = Err r
written (Writing.writes ts) = Ok (record { records = length ts; key_bytes = 32 * length (keys_of ts) })

-- the lent records then: what is written stands at the front, and the rest is kept; a refusal writes nothing
abbrev pub leaves : Writing → Records → Records
leaves (Writing.refused r) old = old
leaves (Writing.writes ts) old =
    record {
      kinds = over (map (λ t. t.kind) ts) old.kinds;
      numbers = over (map (λ t. t.number) ts) old.numbers;
      places = over (map (place_in (keys_of ts)) ts) old.places;
      keys = over (joined (keys_of ts)) old.keys;
    }

-- what is given back, and the lent records then
pub record Wrote : Type 0 where
  pub answer : Result Written Refusal
  pub records : Records

unfoldable pub wrote : List ℕ → Records → Wrote
wrote b old = record { answer = written (writing b old); records = leaves (writing b old) old }
