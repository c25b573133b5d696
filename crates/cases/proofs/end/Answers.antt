-- The number that stands in the body's front; past it there is none.
use Rattle.std.proofs.Common.{◌+◌, ◌*◌, ◌<◌, arith, length, sym}
use Rattle.cases.specs.Cases.{end_of}
use Rattle.cases.proofs.Reading.{number_past}
use Rattle.cases.proofs.end.Goals as goal

pub returns-then-k-body : goal.returns-then-k-body
unfolding end_of
returns-then-k-body c = c.read.ensures

pub returns : goal.returns
unfolding end_of
returns c =
    let h : length c.args.body.now < 2 + 4 * c.args.k + 4 = omega arith in
    sym (number_past 4 c.args.body.now (2 + 4 * c.args.k) h)
