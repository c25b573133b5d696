-- By the tests.
use borrow.Author.Tests.{ne_eqb}
use Rattle.semantics.specs.Records.{records_of}
use Rattle.productions.proofs.Places.{one_equal_no, one_equal_short, one_equal_yes}
use Rattle.productions.proofs.ends_with_one_equal.Goals as goal

pub returns-then-end-lt3 : goal.returns-then-end-lt3
returns-then-end-lt3 c places keys = one_equal_short (records_of c.args.kinds.now c.args.numbers.now places keys) c.args.end c.if-end-lt3.true

pub returns-else-kinds-end-eq-EQUAL : goal.returns-else-kinds-end-eq-EQUAL
returns-else-kinds-end-eq-EQUAL c places keys =
    rw (ne_eqb _ 14 c.if-kinds-end-eq-EQUAL.false)
    (one_equal_no (records_of c.args.kinds.now c.args.numbers.now places keys) c.args.end c.if-end-lt3.false c.if-kinds-end-eq-EQUAL.false)

pub returns-then-kinds-end-eq-EQUAL : goal.returns-then-kinds-end-eq-EQUAL
returns-then-kinds-end-eq-EQUAL c places keys =
    one_equal_yes (records_of c.args.kinds.now c.args.numbers.now places keys) c.args.end c.if-end-lt3.false c.if-kinds-end-eq-EQUAL.true c.fits.result c.fits.ensures
