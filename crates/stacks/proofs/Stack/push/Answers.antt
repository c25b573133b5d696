-- As many wait as are counted (`length_stack`), and what is written is on top (`pushed`).
use Rattle.std.proofs.Common.{◌<◌, arith, get_or, length, pos, to_z-of_z, w64}
use lib.ListN.{length-set}
use Rattle.slices.proofs.Stack.{length_stack}
use Rattle.stacks.proofs.Pushed.{pushed}
use Rattle.stacks.proofs.Stack.push.Goals as goal

-- where the operand is written
pub bounds-self-inside-self-inside : goal.bounds-self-inside-self-inside
bounds-self-inside-self-inside c =
    let s = c.self.inside in
    let held = rw (← c.self.view_is) at c.requires in
    rw (length_stack (λ k. get_or s.operands.now k (pos 0)) s.count) at held

pub invariant_of-self : goal.invariant_of-self
invariant_of-self c =
    let s = c.self.inside in
    let held = rw (← c.self.view_is) at c.requires in
    let free : s.count < length s.operands.now = rw (length_stack (λ k. get_or s.operands.now k (pos 0)) s.count) at held in
    rw length-set (omega (arith, free))

pub returns-clause-operands : goal.returns-clause-operands
returns-clause-operands c =
    let s = c.self.inside in
    let held = rw (← c.self.view_is) at c.requires in
    let free : s.count < length s.operands.now = rw (length_stack (λ k. get_or s.operands.now k (pos 0)) s.count) at held in
    rw (to_z-of_z {w = w64} {z = c.args.operand} c.ranges.operand, ← c.self.view_is) (pushed s.operands.now s.count c.args.operand free)
