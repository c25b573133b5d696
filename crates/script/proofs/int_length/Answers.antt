-- An opcode (`small_length`), or a push (`large_length`).
use Rattle.std.proofs.Common.{arith, sym, ap, ◌∙◌, length}
use Rattle.script.proofs.Pushes.{large_int, large_length, small_length}
use Rattle.script.proofs.int_length.Goals as goal

pub returns-in-0-to-16 : goal.returns-in-0-to-16
returns-in-0-to-16 c = (sym (small_length c.args.n (omega arith)), omega arith)

pub returns-in_default : goal.returns-in_default
returns-in_default c = (
  sym (large_length c.args.n c.number_width.result (omega arith) c.number_width.ensures.0) ∙ ap length (large_int c.args.n c.number_width.result (omega arith) c.number_width.ensures.0),
  omega (arith, c.number_width.ensures.1),
)
