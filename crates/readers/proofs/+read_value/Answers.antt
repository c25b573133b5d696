-- The reader's turns by rows, each as a turn of `Loop` over `values`.
use Rattle.std.proofs.Common.{arith, refl, sym, ◌∙◌}
use Rattle.productions.proofs.Places.{numbered_none}
use Rattle.readers.proofs.Onward.{binary_left, binary_none, lookup_none, lookup_read, value_beyond, value-const, value-counted, value-oracle, value_one, value_unary, values}
use Rattle.readers.proofs.Turns.{Turn, before_fits, before_rows, found, loop_done, loop_nothing, loop_turn, own, turn_of}
use Rattle.readers.proofs.+read_value.Goals as goal

-- there is no row, or none of a value
pub returns-in_default : goal.returns-in_default
returns-in_default t c =
    let none = numbered_none _ (sym c.row_before.ensures ∙ c.in_default.is) in
    loop_nothing values _ _ _ value_one _ _ c.loop-count.invariant
    λ r p. value_beyond r _ _ (p.noted _ c.loop-count.invariant.low) (omega arith) _ c.loop-count-test.true

pub returns-then-row-ge-INDEXES : goal.returns-then-row-ge-INDEXES
returns-then-row-ge-INDEXES t c =
    let turn : Turn values _ _ _ _ _ _ = turn_of c.requires c.loop-count.invariant c.loop-count-test.true c.row_before.ensures c.in-Some.is c.width-end.ensures in
    loop_nothing values _ _ _ value_one _ _ c.loop-count.invariant
    λ r p. value_beyond r _ _ (turn.row ∙ p.noted _ c.loop-count.invariant.low) (omega arith) _ c.loop-count-test.true

-- a lookup of the index before it
pub returns-in_default-read_index : goal.returns-in_default-read_index
returns-in_default-read_index t c =
    let turn : Turn values _ _ _ _ _ _ = turn_of c.requires c.loop-count.invariant c.loop-count-test.true c.row_before.ensures c.in-Some.is c.width-end.ensures in
    loop_nothing values _ _ _ value_one _ _ c.loop-count.invariant
    λ r p. lookup_none r _ _ _ (found turn r p) (omega arith) (omega arith) _ (c.read_index.ensures.right r (before_rows turn r p)) c.in_default-read_index.is _
    c.loop-count-test.true

pub loop-count-smaller-then-row-lt-UNARIES : goal.loop-count-smaller-then-row-lt-UNARIES
loop-count-smaller-then-row-lt-UNARIES t c =
    let turn : Turn values _ _ _ _ _ _ = turn_of c.requires c.loop-count.invariant c.loop-count-test.true c.row_before.ensures c.in-Some.is c.width-end.ensures in
    omega (arith, own turn, c.read_index.ensures.within _ c.in-Read.is)

pub loop-count-preserved-then-row-lt-UNARIES : goal.loop-count-preserved-then-row-lt-UNARIES
loop-count-preserved-then-row-lt-UNARIES t c =
    let turn : Turn values _ _ _ _ _ _ = turn_of c.requires c.loop-count.invariant c.loop-count-test.true c.row_before.ensures c.in-Some.is c.width-end.ensures in
    let low = c.read_index.ensures.within _ c.in-Read.is in
    loop_turn values _ _ _ _ _ _ c.loop-count.invariant (omega (arith, own turn)) (omega (arith, own turn))
    λ r p. lookup_read r _ _ _ (found turn r p) (omega arith) (omega arith) _ (c.read_index.ensures.right r (before_rows turn r p)) _ c.in-Read.is _ c.loop-count-test.true

-- an operation on one value, and one of one token on two
pub loop-count-smaller-then-row-lt-BINARIES : goal.loop-count-smaller-then-row-lt-BINARIES
loop-count-smaller-then-row-lt-BINARIES t c =
    let turn : Turn values _ _ _ _ _ _ = turn_of c.requires c.loop-count.invariant c.loop-count-test.true c.row_before.ensures c.in-Some.is c.width-end.ensures in
    omega (arith, own turn)

pub loop-count-preserved-then-row-lt-BINARIES : goal.loop-count-preserved-then-row-lt-BINARIES
loop-count-preserved-then-row-lt-BINARIES t c =
    let turn : Turn values _ _ _ _ _ _ = turn_of c.requires c.loop-count.invariant c.loop-count-test.true c.row_before.ensures c.in-Some.is c.width-end.ensures in
    loop_turn values _ _ _ _ _ _ c.loop-count.invariant (omega (arith, own turn)) (omega (arith, own turn))
    λ r p. value_unary r _ _ _ (found turn r p) (omega arith) (omega arith) _ c.loop-count-test.true

pub loop-count-smaller-then-row-lt-ORACLES : goal.loop-count-smaller-then-row-lt-ORACLES
loop-count-smaller-then-row-lt-ORACLES t c =
    let turn : Turn values _ _ _ _ _ _ = turn_of c.requires c.loop-count.invariant c.loop-count-test.true c.row_before.ensures c.in-Some.is c.width-end.ensures in
    omega (arith, own turn)

pub loop-count-preserved-then-row-lt-ORACLES : goal.loop-count-preserved-then-row-lt-ORACLES
loop-count-preserved-then-row-lt-ORACLES t c =
    let turn : Turn values _ _ _ _ _ _ = turn_of c.requires c.loop-count.invariant c.loop-count-test.true c.row_before.ensures c.in-Some.is c.width-end.ensures in
    loop_turn values _ _ _ _ _ _ c.loop-count.invariant (omega (arith, own turn)) (omega (arith, own turn))
    λ r p. value-counted r _ _ _ (found turn r p) (omega arith) (omega arith) _ c.loop-count-test.true

-- the right operand of an operation of several tokens
pub read_value-requires : goal.read_value-requires
read_value-requires t c =
    let turn : Turn values _ _ _ _ _ _ = turn_of c.requires c.loop-count.invariant c.loop-count-test.true c.row_before.ensures c.in-Some.is c.width-end.ensures in
    (omega (arith, own turn, c.loop-count.invariant.low), before_fits turn)

pub returns-in_default-read_value : goal.returns-in_default-read_value
returns-in_default-read_value t c =
    let turn : Turn values _ _ _ _ _ _ = turn_of c.requires c.loop-count.invariant c.loop-count-test.true c.row_before.ensures c.in-Some.is c.width-end.ensures in
    loop_nothing values _ _ _ value_one _ _ c.loop-count.invariant
    λ r p. binary_none r _ _ _ (found turn r p) (omega arith) (omega arith) _ (c.read_value.ensures.right r (before_rows turn r p)) c.in_default-read_value.is _
    c.loop-count-test.true

pub loop-count-smaller-then-row-lt-BIT_OPERATIONS : goal.loop-count-smaller-then-row-lt-BIT_OPERATIONS
loop-count-smaller-then-row-lt-BIT_OPERATIONS t c =
    let turn : Turn values _ _ _ _ _ _ = turn_of c.requires c.loop-count.invariant c.loop-count-test.true c.row_before.ensures c.in-Some.is c.width-end.ensures in
    omega (arith, own turn, c.read_value.ensures.within _ c.in-Read-read_value.is)

pub loop-count-preserved-then-row-lt-BIT_OPERATIONS : goal.loop-count-preserved-then-row-lt-BIT_OPERATIONS
loop-count-preserved-then-row-lt-BIT_OPERATIONS t c =
    let turn : Turn values _ _ _ _ _ _ = turn_of c.requires c.loop-count.invariant c.loop-count-test.true c.row_before.ensures c.in-Some.is c.width-end.ensures in
    let low = c.read_value.ensures.within _ c.in-Read-read_value.is in
    loop_turn values _ _ _ _ _ _ c.loop-count.invariant (omega (arith, own turn)) (omega (arith, own turn))
    λ r p. binary_left r _ _ _ (found turn r p) (omega arith) (omega arith) _ (c.read_value.ensures.right r (before_rows turn r p)) _ c.in-Read-read_value.is _
    c.loop-count-test.true

-- a constant, and an oracle
pub loop-count-smaller-then-row-lt-LOOKUPS : goal.loop-count-smaller-then-row-lt-LOOKUPS
loop-count-smaller-then-row-lt-LOOKUPS t c =
    let turn : Turn values _ _ _ _ _ _ = turn_of c.requires c.loop-count.invariant c.loop-count-test.true c.row_before.ensures c.in-Some.is c.width-end.ensures in
    omega (arith, own turn)

pub loop-count-preserved-then-row-lt-LOOKUPS : goal.loop-count-preserved-then-row-lt-LOOKUPS
loop-count-preserved-then-row-lt-LOOKUPS t c =
    let turn : Turn values _ _ _ _ _ _ = turn_of c.requires c.loop-count.invariant c.loop-count-test.true c.row_before.ensures c.in-Some.is c.width-end.ensures in
    loop_turn values _ _ _ _ _ _ c.loop-count.invariant (omega (arith, own turn)) (omega (arith, own turn))
    λ r p. value-const r _ _ _ (found turn r p) (omega arith) _ c.loop-count-test.true

pub loop-count-smaller : goal.loop-count-smaller
loop-count-smaller t c =
    let turn : Turn values _ _ _ _ _ _ = turn_of c.requires c.loop-count.invariant c.loop-count-test.true c.row_before.ensures c.in-Some.is c.width-end.ensures in
    omega (arith, own turn)

pub loop-count-preserved : goal.loop-count-preserved
loop-count-preserved t c =
    let turn : Turn values _ _ _ _ _ _ = turn_of c.requires c.loop-count.invariant c.loop-count-test.true c.row_before.ensures c.in-Some.is c.width-end.ensures in
    loop_turn values _ _ _ _ _ _ c.loop-count.invariant (omega (arith, own turn)) (omega (arith, own turn))
    λ r p. value-oracle r _ _ _ (found turn r p) (omega arith) (omega arith) _ c.loop-count-test.true

pub returns : goal.returns
returns t c = loop_done values _ _ _ value_one (λ ts. refl) _ _ c.loop-count.invariant (omega (arith, c.loop-count-test.false))
