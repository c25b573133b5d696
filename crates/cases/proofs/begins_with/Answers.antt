-- A number that differs decides; past the last one all are the same.
use Rattle.std.proofs.Common.{◌∙◌, arith, sym}
use Rattle.cases.proofs.Comparing.{begins_more, begins_other, begins_past}
use Rattle.cases.proofs.begins_with.Goals as goal

pub returns-then-ne : goal.returns-then-ne
returns-then-ne g c =
    sym (c.loop-i.invariant ∙ begins_other g.T.PartialEq.eq g.T.Number.of g.T.Number.SIZE g.met.T.Number.not_empty c.args.part.now c.args.numbers.now c.loop-i.i
    c.index-numbers-i.result c.nth.result c.ne.result c.loop-i-test.true c.index-numbers-i.is c.nth.ensures c.ne.ensures c.if-ne.true)

pub loop-i-preserved : goal.loop-i-preserved
loop-i-preserved g c =
    c.loop-i.invariant ∙ begins_more g.T.PartialEq.eq g.T.Number.of g.T.Number.SIZE g.met.T.Number.not_empty c.args.part.now c.args.numbers.now c.loop-i.i
    c.index-numbers-i.result c.nth.result c.ne.result c.loop-i-test.true c.index-numbers-i.is c.nth.ensures c.ne.ensures c.if-ne.false

pub returns : goal.returns
returns g c =
    sym (c.loop-i.invariant ∙ begins_past g.T.PartialEq.eq g.T.Number.of g.T.Number.SIZE g.met.T.Number.not_empty c.args.part.now c.args.numbers.now c.loop-i.i
    (omega arith))
