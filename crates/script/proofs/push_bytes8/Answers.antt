-- The length, and then the number's bytes.
use Rattle.std.proofs.Common.{arith}
use Rattle.slices.specs.Bytes.{little_endian}
use Rattle.slices.proofs.Bytes.{length-little_endian}
use Rattle.script.specs.Script.{script}
use Rattle.script.proofs.Pushes.{front_push}
use Rattle.script.proofs.push_bytes8.Goals as goal

pub returns : goal.returns
unfolding script
returns c = front_push 8 8 (little_endian 8 c.args.bits) c.args.out.now _ (length-little_endian 8 c.args.bits) (omega (arith, c.requires)) c.write_le64.ensures
