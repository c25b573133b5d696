-- The library's number of eight bytes.
use Rattle.std.proofs.Common.{rules}
use Rattle.slices.proofs.Bytes.{read_is}
use Rattle.slices.proofs.read_le64.Goals as goal

pub returns : goal.returns
returns c = read_is c.args.s.now c.args.at _ c.requires c.type_inv.s (search rules)
