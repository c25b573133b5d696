-- A case by the number of its call: "the call (1 Check, 2 Evaluate, 3 Write, 4 Decode, 5 Script)" (tests/vectors/generate.py).
use Rattle.std.specs.Prelude.{◌≡◌, ℕ, ◌<◌, ◌⊎◌, Bool, true, false, cond, List, ◌==◌, Result, MatchResult}
use Rattle.condition_cases.specs.Agreement.{check_agrees, evaluate_agrees}
use Rattle.token_cases.specs.Decoding.{decode_agrees}
use Rattle.token_cases.specs.ScriptWriting.{script_agrees}
use Rattle.token_cases.specs.Writing.{write_agrees}
use Rattle.vectors.specs.declared.Call.{Call}
use Rattle.vectors.specs.declared.Call.TheVariants.{Check, Evaluate, Write, Decode, WriteScript}
use Rattle.vectors.specs.declared.UnknownCall.{UnknownCall}
use Rattle.vectors.specs.declared.Outcome.{Outcome}
use Rattle.vectors.specs.declared.Outcome.TheVariants.{Agrees, Differs, Unknown}

-- the number of a call
abbrev pub number_of : Call → ℕ
number_of Check = 1
number_of Evaluate = 2
number_of Write = 3
number_of Decode = 4
number_of WriteScript = 5

-- the result is the call of this number, or says that there is none
abbrev pub Decodes : ℕ → Result Call UnknownCall → Type 0
Decodes number r = MatchResult r (λ call. number_of call ≡ number) (λ e. (e.0 ≡ number) × (number ≡ 0 ⊎ 5 < number))

-- r says whether it agrees; no other number is a call
abbrev pub Replayed : ℕ → List ℕ → Bool → Type 0
Replayed call body r =
    cond (call == 1) (r ≡ check_agrees body)
    (cond (call == 2) (r ≡ evaluate_agrees body)
    (cond (call == 3) (r ≡ write_agrees body)
    (cond (call == 4) (r ≡ decode_agrees body) (cond (call == 5) (r ≡ script_agrees body) (r ≡ false)))))

-- what the outcome of a case says
abbrev pub agreed : Outcome → Bool
agreed (Agrees call) = true
agreed (Differs call) = false
agreed (Unknown e) = false
