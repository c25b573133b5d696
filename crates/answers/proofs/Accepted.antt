-- The struct that Decode gives back accepts what its answer accepts; so demand 3 holds of the struct where it holds of the answer. Its number is the answer's.
use Rattle.std.proofs.Common.{Result, Ok, Err}
use Prim.Native.Nat.{ℕ}
use mathlib.Core.Path.{◌≡◌, refl}
use mathlib.Core.List.{List}
use Rattle.semantics.specs.declared.Refusal.{Refusal}
use Rattle.semantics.specs.declared.Decoded.{Decoded}
use Rattle.semantics.specs.Meaning.{CallAccepts, CallUnambiguous, decoded_number}
use Rattle.semantics.specs.Records.{Records, tokens}
use Rattle.semantics.proofs.Meaning.{unambiguous_as}
use Rattle.semantics.proofs.Refusals.{refusal_not_0}
use Rattle.answers.specs.Answers.{AnswerAccepts, decode_answer}

answer_accepts : (d : Result Decoded Refusal) (buffer b : List ℕ) (n : ℕ) → CallAccepts d buffer b n → AnswerAccepts (decode_answer d) buffer b n
answer_accepts d buffer b n a = rw a.0 (refl, refl, refl, a.1)

call_accepts : (d : Result Decoded Refusal) (buffer b : List ℕ) (n : ℕ) → AnswerAccepts (decode_answer d) buffer b n → CallAccepts d buffer b n
call_accepts (Ok d) buffer b n a = (λ k. Ok (record { bytes = a.1 k; start = a.2 k }), a.3)
call_accepts (Err r) buffer b n a = absurd (refusal_not_0 r a.0)

pub answer_unambiguous : (r : Records) (old : List ℕ) (d : Result Decoded Refusal) (new : List ℕ) → CallUnambiguous r old (CallAccepts d new)
    → CallUnambiguous r old (AnswerAccepts (decode_answer d) new)
answer_unambiguous r old d new u few sound full =
    unambiguous_as (tokens r) (answer_accepts d new) (call_accepts d new) (u few sound full)

pub answer-number : (d : Result Decoded Refusal) → (decode_answer d).number ≡ decoded_number d
answer-number (Ok d) = refl
answer-number (Err r) = refl
