-- The reader's turns by rows, each as a turn of `Loop` over `indexes`.
use Rattle.std.proofs.Common.{arith, refl, sym, ◌∙◌}
use borrow.Author.Tests.{not-true, not-false}
use Rattle.productions.proofs.Places.{numbered_none}
use Rattle.readers.proofs.Onward.{converted-left, converted_none, index-before, index_beyond, index_one, index_plain, index_terminal, indexes, unconverted}
use Rattle.readers.proofs.Turns.{Turn, before_fits, before_rows, between_at, between_there, between_told, found, loop_done, loop_nothing, loop_turn, other_told, own, turn_of}
use Rattle.readers.proofs.+read_index.Goals as goal

-- there is no row, or none of an index
pub returns-in_default : goal.returns-in_default
returns-in_default t c =
    let none = numbered_none _ (sym c.row_before.ensures ∙ c.in_default.is) in
    loop_nothing indexes _ _ _ index_one _ _ c.loop-count.invariant
    λ r p. index_beyond r _ _ (p.noted _ c.loop-count.invariant.low) (omega arith) _ c.loop-count-test.true

pub returns-in-0-to-16 : goal.returns-in-0-to-16
returns-in-0-to-16 t c =
    let turn : Turn indexes _ _ _ _ _ _ = turn_of c.requires c.loop-count.invariant c.loop-count-test.true c.row_before.ensures c.in-Some.is c.width-end.ensures in
    loop_nothing indexes _ _ _ index_one _ _ c.loop-count.invariant
    λ r p. index-before r _ _ (turn.row ∙ p.noted _ c.loop-count.invariant.low) (omega arith) _ c.loop-count-test.true

pub returns-in_default-row : goal.returns-in_default-row
returns-in_default-row t c =
    let turn : Turn indexes _ _ _ _ _ _ = turn_of c.requires c.loop-count.invariant c.loop-count-test.true c.row_before.ensures c.in-Some.is c.width-end.ensures in
    loop_nothing indexes _ _ _ index_one _ _ c.loop-count.invariant
    λ r p. index_beyond r _ _ (turn.row ∙ p.noted _ c.loop-count.invariant.low) (omega arith) _ c.loop-count-test.true

-- an index of one token, and an operation of one
pub loop-count-smaller-then-row-lt19 : goal.loop-count-smaller-then-row-lt19
loop-count-smaller-then-row-lt19 t c =
    let turn : Turn indexes _ _ _ _ _ _ = turn_of c.requires c.loop-count.invariant c.loop-count-test.true c.row_before.ensures c.in-Some.is c.width-end.ensures in
    omega (arith, own turn)

pub loop-count-preserved-then-row-lt19 : goal.loop-count-preserved-then-row-lt19
loop-count-preserved-then-row-lt19 t c =
    let turn : Turn indexes _ _ _ _ _ _ = turn_of c.requires c.loop-count.invariant c.loop-count-test.true c.row_before.ensures c.in-Some.is c.width-end.ensures in
    loop_turn indexes _ _ _ _ _ _ c.loop-count.invariant (omega (arith, own turn)) (omega (arith, own turn))
    λ r p. index_terminal r _ _ _ (found turn r p) (omega arith) (omega arith) _ c.loop-count-test.true

pub loop-count-smaller-then-row-lt21 : goal.loop-count-smaller-then-row-lt21
loop-count-smaller-then-row-lt21 t c =
    let turn : Turn indexes _ _ _ _ _ _ = turn_of c.requires c.loop-count.invariant c.loop-count-test.true c.row_before.ensures c.in-Some.is c.width-end.ensures in
    omega (arith, own turn)

pub loop-count-preserved-then-row-lt21 : goal.loop-count-preserved-then-row-lt21
loop-count-preserved-then-row-lt21 t c =
    let turn : Turn indexes _ _ _ _ _ _ = turn_of c.requires c.loop-count.invariant c.loop-count-test.true c.row_before.ensures c.in-Some.is c.width-end.ensures in
    loop_turn indexes _ _ _ _ _ _ c.loop-count.invariant (omega (arith, own turn)) (omega (arith, own turn))
    λ r p. index_plain r _ _ _ (found turn r p) (omega arith) (omega arith) _ c.loop-count-test.true

-- the right operand of mul and div, and what stands before it
pub read_index-requires : goal.read_index-requires
read_index-requires t c =
    let turn : Turn indexes _ _ _ _ _ _ = turn_of c.requires c.loop-count.invariant c.loop-count-test.true c.row_before.ensures c.in-Some.is c.width-end.ensures in
    (omega (arith, own turn, c.loop-count.invariant.low), before_fits turn)

pub returns-in_default-read_index : goal.returns-in_default-read_index
returns-in_default-read_index t c =
    let turn : Turn indexes _ _ _ _ _ _ = turn_of c.requires c.loop-count.invariant c.loop-count-test.true c.row_before.ensures c.in-Some.is c.width-end.ensures in
    loop_nothing indexes _ _ _ index_one _ _ c.loop-count.invariant
    λ r p. converted_none r _ _ _ (found turn r p) (omega arith) (omega arith) _ (c.read_index.ensures.right r (before_rows turn r p)) c.in_default-read_index.is _
    c.loop-count-test.true

pub returns-then-ne : goal.returns-then-ne
returns-then-ne t c =
    let turn : Turn indexes _ _ _ _ _ _ = turn_of c.requires c.loop-count.invariant c.loop-count-test.true c.row_before.ensures c.in-Some.is c.width-end.ensures in
    let low = c.read_index.ensures.within _ c.in-Read.is in
    let other = other_told _ _ c.row_before-in-0-to-22.ensures (not-true _ (sym c.ne.ensures ∙ c.if-ne.true)) in
    loop_nothing indexes _ _ _ index_one _ _ c.loop-count.invariant
    λ r p. unconverted r _ _ _ (found turn r p) (omega arith) (omega arith) _ (c.read_index.ensures.right r (before_rows turn r p)) _ c.in-Read.is _
    (p.noted _ (omega (arith, c.loop-count.invariant.low))) other _ c.loop-count-test.true

pub overflow_sub-end-in-0-to-22 : goal.overflow_sub-end-in-0-to-22
overflow_sub-end-in-0-to-22 t c =
    let turn : Turn indexes _ _ _ _ _ _ = turn_of c.requires c.loop-count.invariant c.loop-count-test.true c.row_before.ensures c.in-Some.is c.width-end.ensures in
    let low = c.read_index.ensures.within _ c.in-Read.is in
    let row = between_told _ _ c.row_before-in-0-to-22.ensures (not-false _ (sym c.ne.ensures ∙ c.if-ne.false)) in
    between_there c.args.rows.now c.args.last c.in-Read.place _ c.requires (omega (arith, c.loop-count.invariant.low)) row refl

pub loop-count-preserved : goal.loop-count-preserved
loop-count-preserved t c =
    let turn : Turn indexes _ _ _ _ _ _ = turn_of c.requires c.loop-count.invariant c.loop-count-test.true c.row_before.ensures c.in-Some.is c.width-end.ensures in
    let low = c.read_index.ensures.within _ c.in-Read.is in
    let row = between_told _ _ c.row_before-in-0-to-22.ensures (not-false _ (sym c.ne.ensures ∙ c.if-ne.false)) in
    let inside = c.loop-count.invariant.low in
    loop_turn indexes _ _ _ _ _ _ c.loop-count.invariant (omega (arith, own turn)) (omega (arith, own turn))
    λ r p. converted-left r _ _ _ (found turn r p) (omega arith) (omega arith) _ (c.read_index.ensures.right r (before_rows turn r p)) _ c.in-Read.is _
    (row ∙ p.noted _ (omega arith)) _ (between_at c.args.rows.now c.args.last c.in-Read.place _ c.requires (omega arith) row refl r p) _ c.loop-count-test.true

pub returns : goal.returns
returns t c = loop_done indexes _ _ _ index_one (λ ts. refl) _ _ c.loop-count.invariant (omega (arith, c.loop-count-test.false))
