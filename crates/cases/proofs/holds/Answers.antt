-- Where the bytes stand at the front, the rest is compared with the fill.
use Rattle.std.proofs.Common.{◌∙◌, ap, eqb, sym}
use Rattle.std.specs.List.{list_all}
use Rattle.cases.proofs.Comparing.{held_none, held_some}
use Rattle.cases.proofs.holds.Goals as goal

pub returns-in-Some : goal.returns-in-Some
returns-in-Some c =
    c.is_filled.ensures ∙ ap (list_all (λ x. eqb x c.args.fill)) c.in-Some.ensures.cases.1
    ∙ sym (held_some eqb c.args.fill c.args.bytes.now c.args.buffer.now c.in-Some.ensures.cases.0)

pub returns-in-None : goal.returns-in-None
returns-in-None c = sym (held_none eqb c.args.fill c.args.bytes.now c.args.buffer.now c.in-None.ensures.cases)
