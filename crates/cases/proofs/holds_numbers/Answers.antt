-- The first numbers are compared with those of the part, the others with the fill.
use Rattle.std.proofs.Common.{sym}
use Rattle.cases.proofs.Comparing.{held_few, held_parts}
use Rattle.cases.proofs.holds_numbers.Goals as goal

pub returns-then-begins_with : goal.returns-then-begins_with
returns-then-begins_with g c =
    let parts = held_parts g.T.PartialEq.eq g.T.Number.of g.T.Number.SIZE g.met.T.Number.not_empty c.args.fill c.args.part.now c.args.buffer.now
    c.in-Some.numbers.now c.in-Some.rest.now c.SIZE.result c.SIZE.ensures c.in-Some.ensures.cases in
    rw (parts, ← c.begins_with.ensures, c.if-begins_with.true) c.is_filled.ensures

pub returns-else-begins_with : goal.returns-else-begins_with
returns-else-begins_with g c =
    let parts = held_parts g.T.PartialEq.eq g.T.Number.of g.T.Number.SIZE g.met.T.Number.not_empty c.args.fill c.args.part.now c.args.buffer.now
    c.in-Some.numbers.now c.in-Some.rest.now c.SIZE.result c.SIZE.ensures c.in-Some.ensures.cases in
    rw (parts, ← c.begins_with.ensures, c.if-begins_with.false)

pub returns-in-None : goal.returns-in-None
returns-in-None g c =
    sym (held_few g.T.PartialEq.eq g.T.Number.of g.T.Number.SIZE g.met.T.Number.not_empty c.args.fill c.args.part.now c.args.buffer.now c.SIZE.result c.SIZE.ensures
    c.in-None.ensures.cases)
