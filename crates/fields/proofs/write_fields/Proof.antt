-- Write's answer for the front of the slices is its answer for the records (`fields_written`).
use borrow.Author.Rules.{rules}
use Prim.Native.Nat.{◌<◌}
use mathlib.Core.Path.{◌∙◌, ap, sym}
use native.Mathlib.Omega.{arith}
use lib.Seq.{length-take-le}
use Rattle.slices.proofs.Bytes.{all_of}
use Rattle.semantics.specs.Write.{Wrote}
use Rattle.answers.specs.Answers.{write_answer}
use Rattle.fields.proofs.Loaded.{fields_written, writable_few}
use Rattle.fields.proofs.write_fields.Statement.{statement}
use Rattle.fields.proofs.write_fields.Tie as tie

pub write_fields_spec : {M : Type 1} → statement M
write_fields_spec =
    tie.close
    (tie.spec
    (λ c κs. search rules)
    (λ c. omega (arith, c.to_write-n.ensures, writable_few c.args.count))
    (λ c. sym (length-take-le _ _ (omega (arith, c.to_write-n.ensures, writable_few c.args.count))))
    (λ c. omega (arith, c.to_write-n.ensures, writable_few c.args.count))
    (λ c. sym (length-take-le _ _ (omega (arith, c.to_write-n.ensures, writable_few c.args.count))))
    (λ c. omega (arith, c.to_write-n.ensures, writable_few c.args.count))
    (λ c. sym (length-take-le _ _ (omega (arith, c.to_write-n.ensures, writable_few c.args.count))))
    (λ c κs. search rules)
    (λ c κs. search rules)
    (λ c. search rules)
    (λ c. search rules)
    (λ c. search rules)
    (λ c. search rules)
    (λ c.
    let a = c.args in
    let l = c.write.new in
    fields_written a.code.now (all_of (λ x. x < 256) a.code.now 0 (λ i. (c.shared_slice_known-1.given i).fits))
    a.count c.to_write-n.result c.to_write-n.ensures
    a.kinds.now a.numbers.now a.places.now a.keys.now
    (record { kinds = l.kinds; numbers = l.numbers; places = l.places; keys = l.keys }) c.write_answer.result
    (omega arith) (omega arith) (omega arith)
    (c.write_answer.ensures ∙ ap (λ (x : Wrote). write_answer x.answer) c.write.ensures) (ap (λ (x : Wrote). x.records) c.write.ensures)))
