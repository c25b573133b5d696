-- The length, and then the key.
use Rattle.std.proofs.Common.{arith, take, drop}
use Rattle.slices.proofs.Bytes.{part_length}
use Rattle.script.specs.Script.{script}
use Rattle.script.proofs.Pushes.{front_push}
use Rattle.script.proofs.push_bytes32.Goals as goal

pub returns : goal.returns
unfolding script
returns c =
    let bytes = take 32 (drop c.args.at c.args.from.now) in
    front_push 32 32 bytes c.args.out.now _ (part_length c.args.from.now c.args.at 32 c.requires.0) (omega (arith, c.requires.1)) c.copy.ensures
