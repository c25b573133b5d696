-- A comparison, and two value expressions before it.
use Rattle.std.proofs.Common.{arith, sym, ◌∙◌}
use Rattle.productions.proofs.Noted.{noted_at, own_tokens, rows-fewer}
use Rattle.productions.proofs.Places.{numbered_none, numbered_row}
use Rattle.readers.proofs.Onward.{compared-left, compared_none, condition-before, condition_beyond}
use Rattle.readers.proofs.read_condition.Goals as goal

pub returns-in_default : goal.returns-in_default
returns-in_default c r p = condition_beyond r _ _ (p.noted _ (omega arith)) (numbered_none _ (sym c.row_before.ensures ∙ c.in_default.is))

pub returns-then-row-lt-COMPARISONS : goal.returns-then-row-lt-COMPARISONS
returns-then-row-lt-COMPARISONS c r p =
    let row = numbered_row _ _ (sym c.row_before.ensures ∙ c.in-Some.is) in
    condition-before r _ _ (row.0 ∙ p.noted _ (omega arith)) c.if-row-lt-COMPARISONS.true

pub returns-in_default-read_value : goal.returns-in_default-read_value
returns-in_default-read_value c r p =
    let row = numbered_row _ _ (sym c.row_before.ensures ∙ c.in-Some.is) in
    let low = own_tokens c.args.rows.now c.args.size c.args.size _ _ c.requires (omega arith) row.0 row.1 c.width.ensures in
    let found = noted_at c.args.rows.now c.args.size c.args.size _ _ c.requires (omega arith) row.0 row.1 c.width.ensures r p in
    compared_none r _ _ _ found c.if-row-lt-COMPARISONS.false _ (c.read_value.ensures.right r (rows-fewer r _ _ _ p (omega arith))) c.in_default-read_value.is

pub returns : goal.returns
returns c r p =
    let row = numbered_row _ _ (sym c.row_before.ensures ∙ c.in-Some.is) in
    let low = own_tokens c.args.rows.now c.args.size c.args.size _ _ c.requires (omega arith) row.0 row.1 c.width.ensures in
    let found = noted_at c.args.rows.now c.args.size c.args.size _ _ c.requires (omega arith) row.0 row.1 c.width.ensures r p in
    let middle = c.read_value.ensures.within _ c.in-Read.is in
    compared-left r _ _ _ found c.if-row-lt-COMPARISONS.false _ (c.read_value.ensures.right r (rows-fewer r _ _ _ p (omega arith)))
    _ c.in-Read.is _ (c.read_value-2.ensures.right r (rows-fewer r _ _ _ p (omega arith)))
