-- The number at its place.
use Rattle.std.proofs.Common.{ap, ◌∙◌}
use Rattle.cases.proofs.Reading.{place_is}
use Rattle.cases.proofs.nth.Goals as goal

pub returns : goal.returns
returns g c =
    c.read.ensures
    ∙ ap g.T.Number.of (place_is g.T.Number.SIZE c.args.part.now c.args.i _ _ _ g.met.T.Number.not_empty c.SIZE.ensures c.checked_mul.ensures c.unwrap_or.ensures c.unwrap_or.type_inv)
