-- The library's part, or none.
use Rattle.std.proofs.Common.{◌∙◌, ap, refl}
use Rattle.cases.proofs.Reading.{between_got}
use Rattle.cases.proofs.between.Goals as goal

pub returns : goal.returns
returns c = ap (λ r. r.now) c.unwrap_or.ensures ∙ between_got c.args.body.now c.args.from c.args.to _ _ c.get.ensures.lookup refl
