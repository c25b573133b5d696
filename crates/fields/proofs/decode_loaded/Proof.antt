-- Decode's answer for the fields that were loaded is its answer for the records (`decodes`, `refuses`).
use borrow.Author.Rules.{rules}
use mathlib.Core.Path.{refl, sym}
use native.Mathlib.Omega.{arith}
use lib.Seq.{length-take-le}
use Rattle.fields.proofs.Loaded.{decodes, loaded_few, refuses}
use Rattle.fields.proofs.decode_loaded.Statement.{statement}
use Rattle.fields.proofs.decode_loaded.Tie as tie

pub decode_loaded_spec : {M : Type 1} → statement M
decode_loaded_spec =
    tie.close
    (tie.spec
    (λ c κs. search rules)
    (λ c rs e l. refuses rs _ _ _ _ (omega (arith, e)) c.decode_answer.ensures refl)
    (λ c. sym (length-take-le _ _ (omega (arith, loaded_few c.args.count (omega arith)))))
    (λ c. sym (length-take-le _ _ (omega (arith, loaded_few c.args.count (omega arith)))))
    (λ c. sym (length-take-le _ _ (omega (arith, loaded_few c.args.count (omega arith)))))
    (λ c κs. search rules)
    (λ c κs. search rules)
    (λ c. search rules)
    (λ c rs e l. decodes rs _ _ _ _ _ _ _ c.decode.result c.args.count e (omega arith) l c.decode.ensures.0 c.decode.ensures.1.0 c.decode.ensures.1.1 c.decode_answer-2.ensures))
