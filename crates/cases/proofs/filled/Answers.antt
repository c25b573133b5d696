use Rattle.std.proofs.Common.{refl}
use Rattle.cases.specs.Known.{fresh}
use Rattle.cases.proofs.filled.Goals as goal

pub returns : goal.returns
unfolding fresh
returns g c = refl
