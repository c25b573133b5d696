-- The step of num64, in range.
use Rattle.std.proofs.Common.{◌∙◌, ap, to_z-of_z}
use Rattle.index64.specs.Steps.{within}
use Rattle.index64.proofs.Laws.{within-sub}
use Rattle.index64.proofs.step_sub.Goals as goal

pub returns : goal.returns
returns c =
    c.ranged.ensures ∙ ap within (rw (to_z-of_z c.ranges.x, to_z-of_z c.ranges.y) at c.checked_sub.ensures) ∙ within-sub c.args.x c.args.y
