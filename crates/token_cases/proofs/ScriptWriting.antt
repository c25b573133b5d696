-- A case of Write Script agrees by what was read of it and what its call left.
use Prim.Native.Nat.{ℕ, ◌≤◌, ◌<◌}
use mathlib.Core.Bool.{◌&&◌, false}
use mathlib.Core.Path.{◌≡◌}
use mathlib.Core.List.{List, [], ◌∷◌, ◌++◌}
use lib.ListN.{take, drop}
use Rattle.script.specs.WriteScript.{wrote_script}
use Rattle.answers.specs.declared.ScriptAnswer.{ScriptAnswer}
use Rattle.answers.specs.Answers.{script_answer}
use Rattle.cases.specs.Cases.{part_of, word_of}
use Rattle.cases.specs.Known.{begins, fill, fresh, held}
use Rattle.cases.proofs.Comparing.{known-lent, known_short, take-fresh}
use Rattle.token_cases.specs.ScriptWriting.{script_agrees}

module _ (body known : List ℕ) (room : ℕ) (k : known ≡ part_of body 1) (r : room ≡ word_of known 0) where
  pub script_short : 5200 < room → script_agrees body ≡ false
  unfolding script_agrees
  script_short h = rw (← k, ← r) (known_short 5200 room known _ (part_of body 2) _ h)

  pub script-compared : (buffer lent : List ℕ) (a : ScriptAnswer) → buffer ≡ fresh 5200 fill → room ≤ 5200
      → a ≡ script_answer (wrote_script (part_of body 0) (take room buffer)).answer → lent ≡ (wrote_script (part_of body 0) (take room buffer)).buffer
      → script_agrees body
      ≡ (begins known (room ∷ a.number ∷ a.place ∷ a.script_bytes ∷ []) && held fill (part_of body 2) (lent ++ drop room buffer))
  unfolding script_agrees
  script-compared buffer lent a f h e l =
      rw (e, l, f, take-fresh room 5200 fill h, ← k, ← r) (known-lent 5200 room known _ (part_of body 2) _ h)
