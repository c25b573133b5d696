-- Each key that is passed is another (`from_later`).
use Rattle.std.proofs.Common.{length, ap, arith, sym, ◌∙◌, ◌≡◌, zero-add}
use Rattle.semantics.specs.Write.{index_of}
use Rattle.keys.specs.Keys.{key_at, keys_at}
use Rattle.keys.proofs.Noting.{from, from_end, from_here, from_later, not_placed, placed, position_inside}
use Rattle.keys.proofs.find_key.Goals as goal

pub loop-j-init : goal.loop-j-init
loop-j-init c = zero-add _

pub is_same_key-requires : goal.is_same_key-requires
is_same_key-requires c = (position_inside c.args.code.now c.args.positions.now c.requires.1 c.loop-j.j c.loop-j-test.true, c.requires.0)

pub returns-then-is_same_key : goal.returns-then-is_same_key
returns-then-is_same_key c =
    let key = key_at c.args.code.now c.args.at in
    let here = from_here c.args.code.now c.args.positions.now key c.loop-j.j c.loop-j-test.true (sym c.is_same_key.ensures ∙ c.if-is_same_key.true) in
    sym (placed c.args.code.now c.args.positions.now key c.loop-j.j c.loop-j-test.true (omega (arith, c.loop-j.invariant, here)))

pub loop-j-preserved : goal.loop-j-preserved
loop-j-preserved c =
    let key = key_at c.args.code.now c.args.at in
    let later = from_later c.args.code.now c.args.positions.now key c.loop-j.j c.loop-j-test.true (sym c.is_same_key.ensures ∙ c.if-is_same_key.false) in
    omega (arith, c.loop-j.invariant, later)

pub returns : goal.returns
returns c =
    let key = key_at c.args.code.now c.args.at in
    let e : c.loop-j.j ≡ length c.args.positions.now = omega (arith, c.loop-j-test.false, c.loop-j.auto.j-end) in
    let none : index_of key (keys_at c.args.code.now c.args.positions.now) ≡ length c.args.positions.now =
    omega (arith, c.loop-j.invariant, e, ap (from c.args.code.now c.args.positions.now key) e, from_end c.args.code.now c.args.positions.now key) in
    sym (not_placed c.args.code.now c.args.positions.now key none)
