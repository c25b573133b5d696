-- What stands in front of the text is filled with blanks.
use Rattle.sheet.proofs.Columns.{aligned}
use Rattle.sheet.proofs.right_align.Goals as goal

pub returns : goal.returns
returns c = aligned c.write_field-start.ensures (c.fill.ensures.after (λ y e. e))
