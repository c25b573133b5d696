-- Each command is one turn (`noting_next`).
use Rattle.std.proofs.Common.{arith, ap}
use Rattle.commands.specs.declared.Cursor.{Cursor}
use Rattle.keys.proofs.Noting.{noting_done, noting_next, noting_none, noting_operands, noting_room}
use Rattle.keys.proofs.find_keys.Goals as goal

pub loop-at-init : goal.loop-at-init
loop-at-init c = noting_none c.args.code.now c.args.positions.now c.requires.0

pub next-here-requires : goal.next-here-requires
next-here-requires c = noting_operands _ _ _ _ _ c.loop-at.invariant c.loop-at-test.true

pub note_key-count-requires : goal.note_key-count-requires
note_key-count-requires c = (
  omega (arith, noting_operands _ _ _ _ _ c.loop-at.invariant c.loop-at-test.true, ap (λ (c : Cursor). c.operands) c.next-here.ensures, ap (λ (c : Cursor). c.next) c.next-here.ensures),
  c.requires.1,
  noting_room _ _ _ _ _ c.loop-at.invariant c.loop-at-test.true,
  c.loop-at.invariant.inside,
)

pub loop-at-preserved : goal.loop-at-preserved
loop-at-preserved c = noting_next _ _ _ _ _ c.loop-at.invariant c.loop-at-test.true c.next-here.result c.next-here.ensures _ _ c.note_key-count.ensures

pub returns-clause-there : goal.returns-clause-there
returns-clause-there c = c.loop-at.invariant.there

pub returns-clause-found : goal.returns-clause-found
returns-clause-found c = noting_done _ _ _ _ _ c.loop-at.invariant c.loop-at-test.false
