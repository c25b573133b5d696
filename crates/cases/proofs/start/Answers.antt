-- The first part begins after the ends.
use Rattle.std.proofs.Common.{◌∙◌, sym, arith}
use Rattle.cases.proofs.Reading.{start_first, start_later}
use Rattle.cases.proofs.start.Goals as goal

pub returns-then-k-gt0 : goal.returns-then-k-gt0
returns-then-k-gt0 c = c.end.ensures ∙ sym (start_later c.args.body.now c.args.k c.if-k-gt0.true)

pub returns-in-Some : goal.returns-in-Some
returns-in-Some c = grind (arith, start_first c.args.body.now c.args.k c.if-k-gt0.false)

pub returns-in-None : goal.returns-in-None
returns-in-None c = grind (arith, start_first c.args.body.now c.args.k c.if-k-gt0.false)
