-- The step of num64, in range.
use Rattle.std.proofs.Common.{◌∙◌, ap, to_z-of_z}
use Rattle.index64.specs.Steps.{within}
use Rattle.index64.proofs.Laws.{within-mul}
use Rattle.index64.proofs.step_mul.Goals as goal

pub returns : goal.returns
returns c =
    c.ranged.ensures ∙ ap within (rw (to_z-of_z c.ranges.x, to_z-of_z c.ranges.y) at c.checked_mul.ensures) ∙ within-mul c.args.x c.args.y
