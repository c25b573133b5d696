-- The kinds are those of the row's command, and the first of them is looked at last.
use Rattle.std.proofs.Common.{◌≡◌, ◌+◌, ◌-◌, ◌<◌, ap, ap₂, arith, get_or, length, ◌∙◌}
use Rattle.std.proofs.lemmas.List.{length-map}
use Rattle.semantics.specs.Records.{records_of, token_at}
use Rattle.token_table.specs.Kinds.{number}
use Rattle.productions.specs.Before.{before}
use Rattle.productions.specs.Ending.{ends, row_at}
use Rattle.productions.proofs.Places.{ends_all, ends_miss, ends_more, ends_short}
use Rattle.productions.proofs.Table.{own_command, own_fits, own_row}
use Rattle.productions.proofs.ends.Goals as goal

pub unwrap-requires : goal.unwrap-requires
unwrap-requires c =
    let is = c.command.ensures ∙ own_command c.args.row c.requires.row_lt_row_count.0 c.requires.row_lt_row_count.1 in rw is

pub returns-then-end-count : goal.returns-then-end-count
returns-then-end-count c places keys =
    let own = own_row c.args.row _ _ c.token_row-own.result.now c.command.ensures c.unwrap.ensures c.token_row-own.ensures c.requires.row_lt_row_count.0 c.requires.row_lt_row_count.1 in
    ends_short (row_at c.args.row).marks (token_at (records_of c.args.kinds.now c.args.numbers.now places keys)) c.args.end (omega (arith, c.if-end-count.true, own.count))

pub loop-i-init : goal.loop-i-init
loop-i-init c places keys =
    let own = own_row c.args.row _ _ c.token_row-own.result.now c.command.ensures c.unwrap.ensures c.token_row-own.ensures c.requires.row_lt_row_count.0 c.requires.row_lt_row_count.1 in
    let count = length c.token_row-own.result.now - 1 in
    let back : c.args.end ≡ c.args.end - count + count = omega arith in
    ap₂ ends own.marks (ap (before (token_at (records_of c.args.kinds.now c.args.numbers.now places keys))) back)

pub returns-then-not-fits : goal.returns-then-not-fits
returns-then-not-fits c places keys =
    let own = c.token_row-own.result.now in
    let i = c.loop-i.i in
    let at = c.args.end - (length own - 1) + (i - 1) in
    let row = own_row c.args.row _ _ c.token_row-own.result.now c.command.ensures c.unwrap.ensures c.token_row-own.ensures c.requires.row_lt_row_count.0 c.requires.row_lt_row_count.1 in
    let inside : i - 1 < length own = omega (arith, row.some, c.loop-i.auto.i) in
    let tested = own_fits own (i - 1) _ (get_or c.args.kinds.now at 0) (get_or c.args.numbers.now at 0) _ _ inside c.number.ensures c.fits.ensures in
    ends_miss _ (records_of c.args.kinds.now c.args.numbers.now places keys) c.args.end _ _ i (c.loop-i.invariant places keys) (omega arith)
    (omega (arith, inside, length-map own number)) _ tested c.if-not-fits.true

pub loop-i-preserved : goal.loop-i-preserved
loop-i-preserved c places keys =
    let own = c.token_row-own.result.now in
    let i = c.loop-i.i in
    let at = c.args.end - (length own - 1) + (i - 1) in
    let row = own_row c.args.row _ _ c.token_row-own.result.now c.command.ensures c.unwrap.ensures c.token_row-own.ensures c.requires.row_lt_row_count.0 c.requires.row_lt_row_count.1 in
    let inside : i - 1 < length own = omega (arith, row.some, c.loop-i.auto.i) in
    let tested = own_fits own (i - 1) _ (get_or c.args.kinds.now at 0) (get_or c.args.numbers.now at 0) _ _ inside c.number.ensures c.fits.ensures in
    ends_more _ (records_of c.args.kinds.now c.args.numbers.now places keys) c.args.end _ _ i (c.loop-i.invariant places keys) (omega arith)
    (omega (arith, inside, length-map own number)) _ tested c.if-not-fits.false

pub returns : goal.returns
returns c places keys =
    ends_all _ (records_of c.args.kinds.now c.args.numbers.now places keys) c.args.end _ _ c.loop-i.i (c.loop-i.invariant places keys) (omega arith)
