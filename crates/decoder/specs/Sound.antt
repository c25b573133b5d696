-- Soundness of a record, by its fields and the number of key bytes; the first unsound one; and what is decoded.
use Rattle.std.specs.Prelude.{ℕ, ◌<◌, ◌+◌, ◌^◌, ◌≤◌, ◌≡◌, List, length, Bool, ◌&&◌, ◌||◌, not, eqb, leb, ltb, Result, Ok, Err}
use Rattle.std.proofs.Math.Option.{Option, none, some}
use Rattle.slices.specs.Bytes.{All, Bytes}
use Rattle.semantics.specs.Code.{max_code, max_tokens}
use Rattle.semantics.specs.Records.{Records, unsound}

abbrev pub fields_sound : ℕ → ℕ → ℕ → ℕ → Bool
fields_sound kind number place keys =
    leb kind 35 && (not (eqb kind 1) || ltb number (2 ^ 32)) && (not (eqb kind 3) || leb (place + 32) keys)

-- the first unsound record
abbrev pub scanned : Option ℕ → Result (Unit {0}) ℕ
scanned none = (Ok tt)
scanned (some i) = Err i

-- what neither 10, 9 nor 7 falls on
pub record Ready (r : Records) (buffer : List ℕ) : Type 0 where
  pub few : length r.kinds ≤ max_tokens
  pub sound : unsound r ≡ none
  pub full : max_code ≤ length buffer

-- what a slice of bytes and one of words hold, of columns that are lent together
pub record Lent (r : Records) : Type 0 where
  pub bytes : Bytes r.keys
  pub wide : All (λ n. n < 2 ^ 64) r.numbers
