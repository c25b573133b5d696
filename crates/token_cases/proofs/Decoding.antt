-- What Decode is lent is what the case has, and a case agrees by what was read of it and what its call left.
use Prim.Native.Nat.{ℕ, ◌≤◌, ◌<◌}
use mathlib.Core.Bool.{◌&&◌, false}
use mathlib.Core.Path.{◌≡◌}
use mathlib.Core.List.{List, [], ◌∷◌, ◌++◌}
use lib.ListN.{take, drop}
use Rattle.semantics.specs.Decode.{decoded}
use Rattle.semantics.specs.Records.{records_of}
use Rattle.answers.specs.declared.DecodeAnswer.{DecodeAnswer}
use Rattle.answers.specs.Answers.{decode_answer}
use Rattle.cases.specs.Cases.{halves_of, part_of, word_of, words_of}
use Rattle.cases.specs.Known.{begins, fill, fresh, held}
use Rattle.cases.proofs.Comparing.{known-lent, known_short, take-fresh}
use Rattle.token_cases.specs.Decoding.{decode_agrees, decode_lent}

pub decode-lent : (body kinds numbers places keys : List ℕ) → kinds ≡ part_of body 0 → numbers ≡ take 1100 (words_of (part_of body 1))
    → places ≡ take 1100 (halves_of (part_of body 2)) → keys ≡ part_of body 3 → records_of kinds numbers places keys ≡ decode_lent body
decode-lent body kinds numbers places keys p q r s = rw (p, q, r, s)

module _ (body known : List ℕ) (room : ℕ) (k : known ≡ part_of body 4) (r : room ≡ word_of known 0) where
  pub decode_short : 9300 < room → decode_agrees body ≡ false
  unfolding decode_agrees
  decode_short h = rw (← k, ← r) (known_short 9300 room known _ (part_of body 5) _ h)

  pub decode-compared : (buffer lent : List ℕ) (a : DecodeAnswer) → buffer ≡ fresh 9300 fill → room ≤ 9300
      → a ≡ decode_answer (decoded (decode_lent body) (take room buffer)).answer → lent ≡ (decoded (decode_lent body) (take room buffer)).buffer
      → decode_agrees body
      ≡ (begins known (room ∷ a.number ∷ a.place ∷ a.code_bytes ∷ a.start ∷ []) && held fill (part_of body 5) (lent ++ drop room buffer))
  unfolding decode_agrees
  decode-compared buffer lent a f h e l =
      rw (e, l, f, take-fresh room 9300 fill h, ← k, ← r) (known-lent 9300 room known _ (part_of body 5) _ h)
