-- CHECK, of the contents of its slice.
use Rattle.std.specs.Prelude.{cond, List, [], ◌∷◌, ℕ, length, leb, Result, Ok, Err}
use Rattle.std.proofs.Math.Option.{Option, none, some}
use Rattle.semantics.specs.Trees.{Arith}
use Rattle.semantics.specs.Refusals.{Refusal, first_of, unless}
use Rattle.semantics.specs.Code.{max_code, max_tokens}
use Rattle.semantics.specs.Parse.{Parsed, parse}
use Rattle.semantics.specs.Token.{form}
use Rattle.semantics.specs.Oracle.{oracle_rule, oracles}
pub use Rattle.semantics.specs.declared.Checked.{Checked}

-- "1 to 5 in every call that takes a condition": a refusal, or the condition
pub data Condition : Type 0 where
  refused : Refusal → Condition
  passed : Arith → Condition

abbrev pub passed_unless : Option Refusal → Arith → Condition
passed_unless none a = Condition.passed a
passed_unless (some r) a = Condition.refused r

-- 3, then 4 and 5
unfoldable pub judged : Arith → Condition
judged a = passed_unless (first_of (unless (leb (length (form a)) max_tokens) Refusal.TooManyTokens ∷ oracle_rule a ∷ [])) a

abbrev pub judged_parsed : Parsed → Condition
judged_parsed (Parsed.malformed offset) = Condition.refused (Refusal.NotWellFormed offset)
judged_parsed (Parsed.tree a) = judged a

unfoldable pub condition : List ℕ → Condition
condition b = cond (leb (length b) max_code) (judged_parsed (parse b)) (Condition.refused Refusal.CodeTooLong)

abbrev pub answered : Condition → Result Checked Refusal
answered (Condition.refused r) = Err r
answered (Condition.passed a) = Ok (record { tokens = length (form a); oracles = oracles a })

-- "0 is success: Check adds nothing"; the other calls need the number of tokens and of oracle terminals
unfoldable pub checked : List ℕ → Result Checked Refusal
checked b = answered (condition b)
