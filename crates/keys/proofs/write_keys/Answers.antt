-- Each key is copied behind the keys before it (`copied`).
use Rattle.std.proofs.Common.{refl}
use Rattle.semantics.specs.Write.{joined}
use Rattle.keys.proofs.Copying.{copied}
use Rattle.keys.proofs.write_keys.Goals as goal

pub loop-j-init : goal.loop-j-init
unfolding joined
loop-j-init c = refl

pub loop-j-preserved : goal.loop-j-preserved
loop-j-preserved c = rw c.copy.ensures (copied c.args.code.now c.args.positions.now c.requires.0 _ _ c.loop-j.j c.loop-j-test.true c.loop-j.invariant)
