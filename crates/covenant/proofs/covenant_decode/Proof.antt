-- The answer is Decode's, in numbers, the buffer is what Decode left, demand 3 is Decode's, said of the struct (`answer_unambiguous`), and so is what the number tells (`answer-number`).
use borrow.Author.Rules.{rules}
use mathlib.Core.Path.{refl}
use Rattle.answers.proofs.Accepted.{answer-number, answer_unambiguous}
use Rattle.covenant.proofs.covenant_decode.Statement.{statement}
use Rattle.covenant.proofs.covenant_decode.Tie as tie

pub covenant_decode_spec : {M : Type 1} → statement M
covenant_decode_spec =
    tie.close
    (tie.spec
    (λ c κs. search rules)
    (λ c κs. search rules)
    (λ c. search rules)
    (λ c.
    let d = c.decode in
    rw (← d.ensures.0)
    (c.decode_answer.ensures, (refl, (rw c.decode_answer.ensures (answer_unambiguous _ c.args.code.now _ _ d.ensures.1.0), rw (c.decode_answer.ensures, answer-number d.result) d.ensures.1.1)))))
