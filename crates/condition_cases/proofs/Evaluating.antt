-- What Evaluate is lent is what the case has, and a case agrees by what was read of it and what its call left.
use Prim.Native.Nat.{ℕ, ◌≤◌, ◌<◌}
use mathlib.Core.Bool.{◌&&◌, false}
use mathlib.Core.Path.{◌≡◌}
use mathlib.Core.List.{List, [], ◌∷◌, ◌++◌}
use lib.ListN.{take, drop}
use Rattle.semantics.specs.Evaluate.{evaluated}
use Rattle.amounts.specs.Lists.{env_of}
use Rattle.answers.specs.declared.EvaluateAnswer.{EvaluateAnswer}
use Rattle.answers.specs.Answers.{evaluate_answer}
use Rattle.cases.specs.Cases.{halves_of, part_of, word_of}
use Rattle.cases.specs.Known.{begins, fill, fresh, held}
use Rattle.cases.proofs.Comparing.{known-lent, known_short, take-fresh}
use Rattle.condition_cases.specs.Agreement.{amounts_of, evaluate_agrees, evaluate_lent}

module _ (body code a b c d e f g h w n buffer : List ℕ) (current : ℕ) where
  pub evaluate_lent_lem : code ≡ part_of body 0 → a ≡ amounts_of (part_of body 1) → b ≡ part_of body 2 → c ≡ amounts_of (part_of body 3) → d ≡ part_of body 4
      → e ≡ amounts_of (part_of body 5) → f ≡ part_of body 6 → g ≡ amounts_of (part_of body 7) → h ≡ part_of body 8
      → current ≡ word_of (part_of body 11) 0 → w ≡ part_of body 9 → n ≡ take 512 (halves_of (part_of body 10))
      → evaluated code (record { env = env_of a b c d e f g h current; witness = w; ends = n; buffer = buffer })
      ≡ evaluated (part_of body 0) (evaluate_lent body buffer)
  evaluate_lent_lem p₀ p₁ p₂ p₃ p₄ p₅ p₆ p₇ p₈ p₁₁ p₉ p₁₀ = rw (p₀, p₁, p₂, p₃, p₄, p₅, p₆, p₇, p₈, p₁₁, p₉, p₁₀)

module _ (body known : List ℕ) (room : ℕ) (k : known ≡ part_of body 11) (r : room ≡ word_of known 1) where
  pub evaluate_short : 12288 < room → evaluate_agrees body ≡ false
  unfolding evaluate_agrees
  evaluate_short h = rw (← k, ← r) (known_short 12288 room known _ (part_of body 12) _ h)

  pub evaluate_compared : (buffer lent : List ℕ) (a : EvaluateAnswer) → buffer ≡ fresh 12288 fill → room ≤ 12288
      → a ≡ evaluate_answer (evaluated (part_of body 0) (evaluate_lent body (take room buffer))).answer
      → lent ≡ (evaluated (part_of body 0) (evaluate_lent body (take room buffer))).buffer
      → evaluate_agrees body
      ≡ (begins known (word_of known 0 ∷ room ∷ a.number ∷ a.verdict ∷ a.first ∷ a.second ∷ a.checks ∷ a.left ∷ [])
      && held fill (part_of body 12) (lent ++ drop room buffer))
  unfolding evaluate_agrees
  evaluate_compared buffer lent a f h e l =
      rw (e, l, f, take-fresh room 12288 fill h, ← k, ← r) (known-lent 12288 room known _ (part_of body 12) _ h)
