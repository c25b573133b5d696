-- One row more, or none, is noted in each turn.
use Rattle.std.proofs.Common.{[], ◌+◌, arith, ◌∙◌}
use Rattle.semantics.specs.Records.{records_of}
use Rattle.productions.specs.Before.{tokens_before}
use Rattle.productions.proofs.Noted.{noted_number, row_low, rows-fewer, rows_more, rows_none}
use Rattle.productions.proofs.find_rows.Goals as goal

pub loop-i-init : goal.loop-i-init
loop-i-init c places keys = rows_none (records_of c.args.kinds.now c.args.numbers.now places keys) c.args.rows.now

pub loop-i-preserved : goal.loop-i-preserved
loop-i-preserved c places keys =
    rows_more (records_of c.args.kinds.now c.args.numbers.now places keys) c.loop-i.rows c.loop-i.i _ (c.loop-i.invariant places keys) (omega arith)
    (c.unwrap_or.ensures
    ∙ noted_number _ _ (row_low (tokens_before c.args.kinds.now c.args.numbers.now places keys (c.loop-i.i + 1))) (c.last_row.ensures places keys))

pub overflow_cast-rows : goal.overflow_cast-rows
overflow_cast-rows c =
    let most = row_low (tokens_before c.args.kinds.now c.args.numbers.now [] [] (c.loop-i.i + 1)) in
    let number = c.unwrap_or.ensures ∙ noted_number _ _ most (c.last_row.ensures [] []) in
    omega arith

pub returns : goal.returns
returns c places keys = rows-fewer _ _ _ _ (c.loop-i.invariant places keys) c.loop-i-test.false
