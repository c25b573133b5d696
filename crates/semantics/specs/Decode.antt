-- DECODE, of the contents of its slices: what it answers, and what the code buffer holds then.
use Rattle.std.specs.Prelude.{ℕ, cond, List, reverse, length, leb, Result, Ok, Err}
use Rattle.std.proofs.Math.Option.{Option, none, some}
use Rattle.slices.specs.Bytes.{over}
use Rattle.semantics.specs.Trees.{Arith}
use Rattle.semantics.specs.Refusals.{Refusal}
use Rattle.semantics.specs.Code.{code, max_code, max_tokens}
use Rattle.semantics.specs.Token.{Token}
use Rattle.semantics.specs.Oracle.{oracle_rule}
use Rattle.semantics.specs.FromTokens.{Found, found, nothing, from_tokens}
use Rattle.semantics.specs.Records.{Records, tokens, unsound}
pub use Rattle.semantics.specs.declared.Decoded.{Decoded}

-- the code of the condition, with the start of the tail that is its form, or a refusal
pub data Reading : Type 0 where
  accepted : List ℕ → ℕ → Reading
  refused : Refusal → Reading

-- R-2: "If a tail is the form of a condition that only the oracle rule turns down, Decode returns 4 or 5 as Check would"
abbrev pub unless_ruled : Option Refusal → Arith → ℕ → Reading
unless_ruled none a start = Reading.accepted (code a) start
unless_ruled (some r) a start = Reading.refused r

-- R-2: "11 is left for token lists with no readable tail"
abbrev pub reading : Found Arith → Reading
reading (found a before) = unless_ruled (oracle_rule a) a (length before)
reading nothing = Reading.refused Refusal.NoCondition

unfoldable pub decode : List Token → Reading
decode ts = reading (from_tokens (reverse ts))

-- what is given back, and the code buffer then
pub record Decoding : Type 0 where
  pub answer : Result Decoded Refusal
  pub buffer : List ℕ

-- "Decode the code length and the tail's start"
abbrev pub decoded_as : List ℕ → Reading → Decoding
decoded_as old (Reading.refused r) = record { answer = Err r; buffer = old }
decoded_as old (Reading.accepted b start) = record { answer = Ok (record { bytes = length b; start = start }); buffer = over b old }

abbrev pub reading_sound : Option ℕ → List Token → List ℕ → Reading
reading_sound (some i) ts old = Reading.refused (Refusal.TokenUnsound i)
reading_sound none ts old = cond (leb max_code (length old)) (decode ts) (Reading.refused Refusal.BufferTooShort)

-- "Decode: 10, 9, 7, 11"; R-2: "4 and 5 take the position of 11"; "Decode's 7: under 9,216 bytes"
unfoldable pub decoded : Records → List ℕ → Decoding
decoded r old =
    decoded_as old
    (cond (leb (length r.kinds) max_tokens) (reading_sound (unsound r) (tokens r) old) (Reading.refused Refusal.TooManyRecords))
