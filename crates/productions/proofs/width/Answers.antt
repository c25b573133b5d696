-- The last rows have one token.
use Rattle.std.proofs.Common.{arith, sym}
use Rattle.productions.proofs.Table.{single_run}
use Rattle.productions.proofs.width.Goals as goal

pub returns : goal.returns
returns c = sym (single_run c.args.row (omega arith) c.requires)
