-- A row of one token is told by its kind, one of four by the tokens in its middle.
use Rattle.std.proofs.Common.{arith, sym, ◌∙◌}
use Rattle.productions.proofs.Places.{ends-single, ends_four}
use Rattle.productions.proofs.Table.{widths}
use Rattle.productions.proofs.ends_with_candidate.Goals as goal

pub returns-in-1 : goal.returns-in-1
returns-in-1 c places keys =
    sym (ends-single c.args.kinds.now c.args.numbers.now places keys c.args.end c.args.row c.requires.numbered.known c.requires.candidate.0 (c.requires.candidate.1 places keys) _ c.width.ensures c.in-1.is)

pub returns-in-4 : goal.returns-in-4
returns-in-4 c places keys =
    c.ends_with_one_equal.ensures places keys
    ∙ sym (ends_four c.args.kinds.now c.args.numbers.now places keys c.args.end c.args.row c.requires.numbered.known c.requires.candidate.0 (c.requires.candidate.1 places keys) _ c.width.ensures c.in-4.is)

-- others, kind by kind; a row of one token does not come here
pub ends_with-requires-clause-row_lt_row_count : goal.ends_with-requires-clause-row_lt_row_count
ends_with-requires-clause-row_lt_row_count c = (c.requires.candidate.0, omega (arith, (widths c.args.row c.requires.candidate.0).0))
