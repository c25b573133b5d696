-- The command's byte, the key behind it, and the time.
use Rattle.std.proofs.Common.{refl}
use Rattle.emission.proofs.Buffer.{oracle-put}
use Rattle.emission.proofs.put_oracle.Goals as goal

pub returns : goal.returns
returns c =
    oracle-put _ _ _ _ c.args.at c.args.byte c.args.keys.now c.args.place c.args.time c.requires.0 c.requires.1 c.requires.2 refl
    c.copy.ensures c.write_le64.ensures
