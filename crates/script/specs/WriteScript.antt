-- WRITE SCRIPT (R-3), of the contents of its slices: what it answers, and what the lent buffer holds then.
use Rattle.std.specs.Prelude.{ℕ, List, [], ◌∷◌, leb, length, Result, Ok, Err}
use Rattle.std.proofs.Math.Option.{Option, none, some}
use Rattle.slices.specs.Bytes.{over}
use Rattle.semantics.specs.Check.{Condition, condition}
use Rattle.semantics.specs.Operations.{Token}
use Rattle.semantics.specs.declared.Refusal.{Refusal}
use Rattle.semantics.specs.Refusals.{first_of, unless}
use Rattle.semantics.specs.Token.{form, narrow}
use Rattle.script.specs.Script.{script}

-- what is given back, and the lent buffer then
pub record WroteScript : Type 0 where
  pub answer : Result ℕ Refusal
  pub buffer : List ℕ

-- the script stands at the front, and the rest is kept; a refusal writes nothing
abbrev pub leaves_script : Option Refusal → List ℕ → List ℕ → WroteScript
leaves_script (some r) bytes old = record { answer = Err r; buffer = old }
leaves_script none bytes old = record { answer = Ok (length bytes); buffer = over bytes old }

-- "6 as in Write, then 7 for a buffer shorter than the script"
abbrev pub wrote_form : List Token → List ℕ → WroteScript
wrote_form ts old =
    leaves_script
    (first_of (unless (narrow ts) Refusal.IndexConstTooLarge ∷ unless (leb (length (script ts)) (length old)) Refusal.BufferTooShort ∷ []))
    (script ts) old

abbrev pub wrote_script_by : Condition → List ℕ → WroteScript
wrote_script_by (Condition.refused r) old = record { answer = Err r; buffer = old }
wrote_script_by (Condition.passed a) old = wrote_form (form a) old

-- of condition code and of the contents of the buffer
unfoldable pub wrote_script : List ℕ → List ℕ → WroteScript
wrote_script b old = wrote_script_by (condition b) old
