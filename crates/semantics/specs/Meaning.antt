-- DEMAND 3: no token sequence carries two meanings. One statement about a whole token list, `Unambiguous`. That it holds of the decoder of token lists
-- (`ListUnambiguous`) and of the call on records (`CallUnambiguous`) is proved in proofs/Meaning.antt (`unambiguous`, `call_unambiguous`).
-- R-2: what a decoder's 4, 5 and 11 say of the token list, `ToldApart`; proved in proofs/ToldApart.antt of both (`told_apart`, `call_told_apart`).
use Rattle.std.specs.Prelude.{ℕ, zero, suc, ◌<◌, ◌≤◌, ◌^◌, true, ◌≡◌, ◌↔◌, ◌⊎◌, List, [], length, take, drop, Result, Ok, Err}
use Rattle.std.proofs.Math.Option.{none, some}
use Rattle.slices.specs.Bytes.{All, Bytes}
use Rattle.semantics.specs.Trees.{Arith}
use Rattle.semantics.specs.Refusals.{Refusal, numbered}
use Rattle.semantics.specs.Check.{Checked, checked}
use Rattle.semantics.specs.Code.{max_code, max_tokens}
use Rattle.semantics.specs.Parse.{Parsed, parse}
use Rattle.semantics.specs.Token.{Token, form, narrow}
use Rattle.semantics.specs.Oracle.{oracle_rule}
use Rattle.semantics.specs.Evaluate.{Lent, evaluated}
use Rattle.semantics.specs.Records.{Records, tokens, unsound}
use Rattle.semantics.specs.Decode.{Reading, Decoded, decode}

-- "a condition is any well-formed code"; "a condition that 6 turns down has none": ts is the token form of the condition b
pub record HasForm (b : List ℕ) (ts : List Token) : Type 0 where
  pub tree : Arith
  pub bytes : Bytes b
  pub well_formed : parse b ≡ Parsed.tree tree
  pub small : narrow (form tree) ≡ true
  pub is : form tree ≡ ts

-- "a tail runs from some record to the last one": the tail from n on is the form of the condition b
pub record FormAt (ts : List Token) (n : ℕ) (b : List ℕ) : Type 0 where
  pub tail : n < length ts
  pub form : HasForm b (drop n ts)

-- "it passes the oracle rules if neither 4 nor 5 falls on it"
pub record PassingAt (ts : List Token) (n : ℕ) (b : List ℕ) : Type 0 where
  pub at : FormAt ts n b
  pub passes : oracle_rule at.form.tree ≡ none

-- of a decoder of ts: `Accepts b n` says that it accepts, with the code b and the tail's start n
pub record Unambiguous (ts : List Token) (Accepts : List ℕ → ℕ → Type 0) : Type 0 where
  -- it accepts exactly when a tail is the form of a condition that passes the oracle rules
  pub accepts : ((b : List ℕ) × (n : ℕ) × Accepts b n) ↔ ((b : List ℕ) × (n : ℕ) × PassingAt ts n b)
  -- at most one tail is the form of a condition, whether it passes or not
  pub one : (m n : ℕ) (a b : List ℕ) → FormAt ts m a → FormAt ts n b → m ≡ n
  -- what is returned is the start of that tail, and a condition that passes the rules and has that form
  pub returned : (b : List ℕ) (n : ℕ) → Accepts b n → PassingAt ts n b
  -- and whatever Evaluate is lent, it answers all conditions that have one tail for their form alike
  pub alike : (n : ℕ) (a b : List ℕ) → HasForm a (drop n ts) → HasForm b (drop n ts) → (l : Lent) → evaluated a l ≡ evaluated b l

-- "Unsound: kind over 35, Num of 2^32 or more, or a Bytes32" without its 32 bytes: what a sound token has, by its kind
abbrev pub SoundAs : ℕ → ℕ → List ℕ → Type 0
SoundAs zero number key = (number ≡ 0) × (key ≡ [])
SoundAs (suc zero) number key = (number < 2 ^ 32) × (key ≡ [])
SoundAs (suc (suc zero)) number key = (number < 2 ^ 64) × (key ≡ [])
SoundAs (suc (suc (suc zero))) number key = (number ≡ 0) × (length key ≡ 32) × Bytes key
SoundAs (suc (suc (suc (suc k)))) number key = (suc (suc (suc (suc k))) ≤ 35) × (number ≡ 0) × (key ≡ [])

abbrev pub Sound : Token → Type 0
Sound t = SoundAs t.kind t.number t.key

-- the decoder of token lists
abbrev pub DecodeAccepts : List Token → List ℕ → ℕ → Type 0
DecodeAccepts ts b n = decode ts ≡ Reading.accepted b n

-- what it owes, of every list of up to 1,024 sound tokens
abbrev pub ListUnambiguous : List Token → Type 0
ListUnambiguous ts = length ts ≤ max_tokens → All Sound ts → Unambiguous ts (DecodeAccepts ts)

-- "a buffer is full-sized if Decode's 7 lets it pass": what a call owes on up to 1,024 sound records, with such a buffer
abbrev pub CallUnambiguous : Records → List ℕ → (List ℕ → ℕ → Type 0) → Type 0
CallUnambiguous r old Accepts =
    length r.kinds ≤ max_tokens → unsound r ≡ none → max_code ≤ length old → Unambiguous (tokens r) Accepts

-- a call's own answer, with what its code buffer holds then
abbrev pub CallAccepts : Result Decoded Refusal → List ℕ → List ℕ → ℕ → Type 0
CallAccepts answer buffer b n = (answer ≡ Ok (record { bytes = length b; start = n })) × (take (length b) buffer ≡ b)

-- R-2. "0 is success", and a refusal has its number: of Check's answer, of what tokens are read as, and of Decode's answer
abbrev pub checked_number : Result Checked Refusal → ℕ
checked_number (Ok a) = 0
checked_number (Err r) = (numbered r).number

abbrev pub reading_number : Reading → ℕ
reading_number (Reading.accepted b start) = 0
reading_number (Reading.refused r) = (numbered r).number

abbrev pub decoded_number : Result Decoded Refusal → ℕ
decoded_number (Ok a) = 0
decoded_number (Err r) = (numbered r).number

-- the tail from n on is the form of the condition b, which the oracle rule turns down
pub record TurnedDownAt (ts : List Token) (n : ℕ) (b : List ℕ) : Type 0 where
  pub at : FormAt ts n b
  pub refusal : Refusal
  pub turned : oracle_rule at.form.tree ≡ some refusal

-- of a decoder of ts that answers this number
pub record ToldApart (ts : List Token) (number : ℕ) : Type 0 where
  -- "If a tail is the form of a condition that only the oracle rule turns down, Decode returns 4 or 5", and nowhere else
  pub ruled : ((number ≡ 4) ⊎ (number ≡ 5)) ↔ ((b : List ℕ) × (n : ℕ) × TurnedDownAt ts n b)
  -- "as Check would": it is the number that Check answers for every condition that has a tail for its form
  pub as_check : (b : List ℕ) (n : ℕ) → FormAt ts n b → number ≡ checked_number (checked b)
  -- "11 is left for token lists with no readable tail": no tail is the form of any condition
  pub unread : (number ≡ 11) ↔ ((b : List ℕ) (n : ℕ) → FormAt ts n b → ⊥)

-- owed where demand 3 is: of every list of up to 1,024 sound tokens, and of a call on up to 1,024 sound records with a full-sized buffer
abbrev pub ListToldApart : List Token → Type 0
ListToldApart ts = length ts ≤ max_tokens → All Sound ts → ToldApart ts (reading_number (decode ts))

abbrev pub CallToldApart : Records → List ℕ → ℕ → Type 0
CallToldApart r old number = length r.kinds ≤ max_tokens → unsound r ≡ none → max_code ≤ length old → ToldApart (tokens r) number
