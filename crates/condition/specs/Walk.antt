-- Check by one pass over the commands: what the pass keeps, and what it comes to. That this is `checked` is `checked_walk` of proofs/Checks.antt.
use Rattle.std.specs.Prelude.{ℕ, ◌≤◌, cond, List, [], ◌∷◌, ◌≡◌, eqb, leb, ltb, length, Result, Ok, Err}
use Rattle.std.proofs.Math.Option.{Option, none, some}
use Rattle.semantics.specs.Refusals.{first_of, unless}
use Rattle.semantics.specs.declared.Refusal.{Refusal}
use Rattle.semantics.specs.declared.Command.{Command}
use Rattle.semantics.specs.declared.Checked.{Checked}
use Rattle.semantics.specs.Code.{max_code, max_tokens}
use Rattle.semantics.specs.Parse.{Walk, fold, instructions, walk_step}
use Rattle.summary.specs.declared.Rule.{Rule}
use Rattle.summary.specs.declared.Summary.{Summary}
pub use Rattle.summary.specs.Step.{counted, counts, fold_terminals, next, ruled}

-- the walk of Parse.antt, with a summary in the place of the trees that wait
abbrev pub summary_step : Walk Summary → Command → List ℕ → Walk Summary
summary_step = walk_step counts (λ c n s. next c s)

abbrev pub ended : Walk Summary → Result Summary ℕ
ended (Walk.going at s) = cond (eqb s.conditions 0) (Err at) (Ok s)
ended (Walk.refused at) = Err at

abbrev pub start : Summary
start = record { bytes = 0; values = 0; indexes = 0; conditions = 0; tokens = 0; oracles = 0; rule = Rule.Unseen; lookups = 0; most = 0 }

-- refusal 2's offset, or what is known of the code
unfoldable pub walked : List ℕ → Result Summary ℕ
walked c = ended (fold summary_step (Walk.going 0 start) (instructions c))

-- code that Check lets pass, where something holds of what is known of it
pub record Passed (code : List ℕ) (Known : Summary → Type 0) : Type 0 where
  pub last : Summary
  pub walk : walked code ≡ Ok last
  pub few : last.tokens ≤ max_tokens
  pub known : Known last

-- the refusal that the oracle rule comes to
abbrev pub refusal_of : Rule → Option Refusal
refusal_of Rule.Unseen = none
refusal_of Rule.Kept = none
refusal_of Rule.WFirst = some Refusal.PriceOracle1WFirst
refusal_of Rule.Missing = some Refusal.PriceOracle1Missing

-- refusals 3 to 5, or the summary of a condition that none falls on
abbrev pub told_unless : Option Refusal → Summary → Result Summary Refusal
told_unless none s = Ok s
told_unless (some r) s = Err r

abbrev pub judged_summary : Summary → Result Summary Refusal
judged_summary s = told_unless (first_of (unless (leb s.tokens max_tokens) Refusal.TooManyTokens ∷ refusal_of s.rule ∷ [])) s

-- refusal 2, or those
abbrev pub judged_walk : Result Summary ℕ → Result Summary Refusal
judged_walk (Err at) = Err (Refusal.NotWellFormed at)
judged_walk (Ok s) = judged_summary s

-- refusal 1, or those
unfoldable pub examined : List ℕ → Result Summary Refusal
examined c = cond (ltb max_code (length c)) (Err Refusal.CodeTooLong) (judged_walk (walked c))

-- what Check passes on of it
abbrev pub checked_as : Result Summary Refusal → Result Checked Refusal
checked_as (Ok s) = Ok (record { tokens = s.tokens; oracles = s.oracles })
checked_as (Err r) = Err r
