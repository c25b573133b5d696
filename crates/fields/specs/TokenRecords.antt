-- Write and Decode over token records as structs: what is promised is said of the list of records.
use Rattle.std.specs.Prelude.{ℕ, ◌≤◌, cond, ◌≡◌, List, ◌++◌, length, take, drop, leb}
use Rattle.semantics.specs.Code.{max_tokens}
use Rattle.semantics.specs.Decode.{decoded}
use Rattle.semantics.specs.Meaning.{CallToldApart, CallUnambiguous}
use Rattle.semantics.specs.Write.{wrote}
use Rattle.records.specs.declared.TokenRecord.{TokenRecord}
use Rattle.records.specs.Fields.{fields_of, kinds_of, numbers_of, places_of, records_from}
use Rattle.answers.specs.Answers.{AnswerAccepts, decode_answer, write_answer}
use Rattle.answers.specs.declared.DecodeAnswer.{DecodeAnswer}
use Rattle.answers.specs.declared.WriteAnswer.{WriteAnswer}

-- what Decode gives back for these records, and the code buffer then; demand 3, of the struct given back; and what its number tells (R-2)
pub record DecodesRecords (rs : List TokenRecord) (keys old new : List ℕ) (r : DecodeAnswer) : Type 0 where
  pub answer : r ≡ decode_answer (decoded (fields_of rs keys) old).answer
  pub buffer : new ≡ (decoded (fields_of rs keys) old).buffer
  pub unambiguous : CallUnambiguous (fields_of rs keys) old (AnswerAccepts r new)
  pub told_apart : CallToldApart (fields_of rs keys) old r.number

-- what Write gives back for these records, and what records and keys are then; the records beyond those reported are kept
pub record WritesRecords (code : List ℕ) (old new : List TokenRecord) (oldKeys newKeys : List ℕ) (r : WriteAnswer) : Type 0 where
  pub answer : r ≡ write_answer (wrote code (fields_of old oldKeys)).answer
  pub writes : fields_of new newKeys ≡ (wrote code (fields_of old oldKeys)).records
  pub kept : drop r.records new ≡ drop r.records old

-- how many records are loaded: all, or none where there are more than Decode takes
abbrev pub loadable : ℕ → ℕ
loadable count = cond (leb count max_tokens) count 0

-- of so many records those that Write has tokens for
abbrev pub writable : ℕ → ℕ
writable count = cond (leb count max_tokens) count max_tokens

-- the fields of the loaded records stand at the front of these lists
pub record Loaded (rs : List TokenRecord) (kinds numbers places : List ℕ) : Type 0 where
  pub kinds_loaded : take (loadable (length rs)) kinds ≡ take (loadable (length rs)) (kinds_of rs)
  pub numbers_loaded : take (loadable (length rs)) numbers ≡ take (loadable (length rs)) (numbers_of rs)
  pub places_loaded : take (loadable (length rs)) places ≡ take (loadable (length rs)) (places_of rs)

-- whatever so many records were, to store the fields that were written is to write the records
pub record WritesFields (code : List ℕ) (count : ℕ) (kinds numbers places oldKeys newKeys : List ℕ) (r : WriteAnswer) : Type 0 where
  pub few : r.records ≤ count
  pub fit : r.records ≤ max_tokens
  pub stored : (rs : List TokenRecord) → length rs ≡ count
      → WritesRecords code rs (take r.records (records_from kinds numbers places) ++ drop r.records rs) oldKeys newKeys r
