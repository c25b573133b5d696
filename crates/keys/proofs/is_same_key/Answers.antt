-- A word that differs decides (`alike_not`), and one that does not is passed (`alike_so_far`).
use Rattle.std.proofs.Common.{arith, sym, ◌∙◌}
use Rattle.keys.proofs.Same.{alike-first, alike_last, alike_not, alike_so_far}
use Rattle.keys.proofs.is_same_key.Goals as goal

pub loop-i-init : goal.loop-i-init
loop-i-init c = alike-first c.args.code.now c.args.a c.args.b

pub returns-then-read_le64 : goal.returns-then-read_le64
returns-then-read_le64 c =
    sym
    (alike_not c.args.code.now c.args.a c.args.b c.loop-i.i c.loop-i-test.true c.requires.0 c.requires.1 _ _ c.read_le64.ensures c.read_le64-in-loop-i.ensures c.if-read_le64.true)
    ∙ c.loop-i.invariant

pub loop-i-preserved : goal.loop-i-preserved
loop-i-preserved c =
    sym
    (alike_so_far c.args.code.now c.args.a c.args.b c.loop-i.i c.loop-i-test.true c.requires.0 c.requires.1 _ _ c.read_le64.ensures c.read_le64-in-loop-i.ensures c.if-read_le64.false)
    ∙ c.loop-i.invariant

pub returns : goal.returns
returns c = sym (alike_last c.args.code.now c.args.a c.args.b c.loop-i.i (omega (arith, c.loop-i-test.false))) ∙ c.loop-i.invariant
