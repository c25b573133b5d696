-- What Write Script answers, by Check's answer, the tests of 6 and 7, and what the passes over the commands found and wrote.
use Rattle.std.proofs.Common.{Result, Ok, Err, Fits, w8, ◌<◌}
use Prim.Native.Nat.{ℕ, ◌*◌, ◌≤◌}
use mathlib.Core.Bool.{Bool, true, false}
use mathlib.Core.Path.{◌≡◌, ap}
use mathlib.Core.List.{List, [], ◌∷◌, ◌++◌}
use native.Mathlib.Omega.{arith}
use lib.Dec.{leb}
use lib.ListN.{get_or, length}
use Rattle.slices.specs.Bytes.{Bytes, Front}
use Rattle.semantics.specs.declared.Refusal.{Refusal}
use Rattle.semantics.specs.Check.{checked, condition}
use Rattle.semantics.specs.Code.{max_tokens}
use Rattle.semantics.specs.Refusals.{first_of, unless}
use Rattle.semantics.specs.Token.{form}
use Rattle.semantics.specs.Trees.{Arith}
use Rattle.semantics.proofs.Passing.{answered-refused}
use Rattle.slices.proofs.Bytes.{all_of}
use Rattle.summary.specs.declared.Summary.{Summary}
use Rattle.condition.specs.Walk.{examined}
use Rattle.condition.proofs.Onward.{passed, told}
use Rattle.conversions.specs.Marks.{marks_of, narrow_code}
use Rattle.forms.specs.Emitted.{emitted}
use Rattle.forms.proofs.OfTree.{known, narrow_is, tokens_are, tree}
use Rattle.script.specs.Script.{script}
use Rattle.script.specs.WriteScript.{WroteScript, leaves_script, wrote_script}
use Rattle.script.proofs.Size.{script-fits}

-- with code b and the buffer old it answers r and leaves the buffer new
abbrev pub Outcome : List ℕ → List ℕ → Result ℕ Refusal → List ℕ → Type 0
Outcome b old r new = ◌≡◌ {A = WroteScript} (record { answer = r; buffer = new }) (wrote_script b old)

-- 1 to 5
pub refused_first : (b old : List ℕ) (r : Refusal) → examined b ≡ Err r → wrote_script b old ≡ record { answer = Err r; buffer = old }
unfolding checked wrote_script
refused_first b old r e = rw (answered-refused (condition b) r (told b (Err r) e))

pub few_tokens : (b : List ℕ) (s : Summary) → examined b ≡ Ok s → s.tokens ≤ max_tokens
few_tokens b s e = let p = passed b s e in rw p.known at p.few

module _ (b : List ℕ) (bytes-fit : (i : ℕ) → Fits w8 (get_or b i 0)) (s : Summary) (passes : examined b ≡ Ok s) where
  abbrev bytes : Bytes b
  bytes = all_of (λ x. x < 256) b 0 (λ i. (bytes-fit i).fits)

  abbrev checks : checked b ≡ Ok (record { tokens = s.tokens; oracles = s.oracles })
  checks = told b (Ok s) passes

  abbrev condition-tree : Arith
  condition-tree = tree b bytes s.tokens s.oracles checks

  module _ (old : List ℕ) where
    guards : wrote_script b old
        ≡ leaves_script
        (first_of (unless (narrow_code b) Refusal.IndexConstTooLarge ∷ unless (leb (length (script (form condition-tree))) (length old)) Refusal.BufferTooShort ∷ []))
        (script (form condition-tree)) old
    unfolding wrote_script
    guards = rw ((known b bytes s.tokens s.oracles checks).is, narrow_is b bytes s.tokens s.oracles checks)

    pub refused-narrow : narrow_code b ≡ false → Outcome b old (Err Refusal.IndexConstTooLarge) old
    refused-narrow e = rw (guards, e)

  -- with the marks that were found
  module _ (narrow-code : narrow_code b ≡ true) (marks rest : List Bool) (marked : marks ≡ marks_of b ++ rest) where
    abbrev bytes-written : List ℕ
    bytes-written = script (emitted b marks)

    script_is : bytes-written ≡ script (form condition-tree)
    script_is = ap script (tokens_are b bytes s.tokens s.oracles checks marks rest marked)

    -- "COVENANT_MAX_SCRIPT": five bytes a token are enough
    pub fits : length bytes-written ≤ 5 * max_tokens
    fits =
        rw script_is
        (script-fits condition-tree (known b bytes s.tokens s.oracles checks).told.encodable 512 (omega (arith, (known b bytes s.tokens s.oracles checks).told.few)))

    pub refused-room : (old : List ℕ) → leb (length bytes-written) (length old) ≡ false → Outcome b old (Err Refusal.BufferTooShort) old
    refused-room old e = rw (guards old, narrow-code, ← script_is, e)

    pub wrote_all : (old : List ℕ) → leb (length bytes-written) (length old) ≡ true → (new : List ℕ) (n : ℕ) → Front new old bytes-written n
        → Outcome b old (Ok n) new
    wrote_all old e new n f = rw (guards old, narrow-code, ← script_is, e, f.is, ← f.long)
