-- Each refusal is a test's (`refused-narrow`, `refused-room`); what was written is the script of the tree's form (`wrote_all`).
use Rattle.std.proofs.Common.{arith, refl, sym, ◌∙◌}
use Rattle.std.proofs.lemmas.Result.{err_from_is_err_and}
use Rattle.condition.proofs.Onward.{passed_with}
use borrow.Author.Tests.{leb-true}
use Rattle.script_writer.proofs.Answers.{fits, refused-narrow, refused-room, wrote_all}
use Rattle.script_writer.proofs.write_with.Goals as goal

pub mark-requires : goal.mark-requires
mark-requires c = (passed_with c.args.code.now _ c.requires.0 (refl, c.requires.1, c.requires.2), c.requires.3)

pub returns-in_err-mark : goal.returns-in_err-mark
returns-in_err-mark c =
    let told = c.in_err-mark.ensures in
    let r = err_from_is_err_and c.from_residual.result c.from_residual.ensures.1 in
    rw (r.1, r.2, told.0) (refused-narrow c.args.code.now c.type_inv.code c.args.s c.requires.0 _ told.1)

pub has_room-requires : goal.has_room-requires
has_room-requires c = (passed_with c.args.code.now _ c.requires.0 (omega (arith, c.requires)), fits c.args.code.now c.type_inv.code c.args.s c.requires.0 c.in_ok-mark.ensures.0 _ _ c.in_ok-mark.ensures.1)

pub returns-then-not-has_room : goal.returns-then-not-has_room
returns-then-not-has_room c = refused-room c.args.code.now c.type_inv.code c.args.s c.requires.0 c.in_ok-mark.ensures.0 _ _ c.in_ok-mark.ensures.1 _ (sym c.has_room.ensures ∙ c.if-not-has_room.true)

pub push_script-requires : goal.push_script-requires
push_script-requires c = (passed_with c.args.code.now _ c.requires.0 (omega (arith, c.requires)), leb-true _ _ (sym c.has_room.ensures ∙ c.if-not-has_room.false))

pub returns : goal.returns
returns c = wrote_all c.args.code.now c.type_inv.code c.args.s c.requires.0 c.in_ok-mark.ensures.0 _ _ c.in_ok-mark.ensures.1 _ (sym c.has_room.ensures ∙ c.if-not-has_room.false) _ _ c.push_script.ensures
