-- Each refusal is a test's (`refused-narrow`, `refused-room`); what was written is the tree's form with its keys (`wrote_all`).
use Rattle.std.proofs.Common.{sym, ◌∙◌, arith, refl}
use Rattle.std.proofs.lemmas.Result.{err_from_is_err_and}
use Rattle.condition.proofs.Onward.{passed_with}
use Rattle.writer.proofs.Answers.{few_keys, key-room, keys_bound, refused-narrow, refused-room, room, near, wrote_all}
use Rattle.writer.proofs.write_with.Goals as goal

pub mark-requires : goal.mark-requires
mark-requires c = (passed_with c.args.code.now _ c.requires.0 (refl, c.requires.1, c.requires.2), c.requires.3)

pub returns-in_err-mark : goal.returns-in_err-mark
returns-in_err-mark c =
    let told = c.in_err-mark.ensures in
    let r = err_from_is_err_and c.from_residual.result c.from_residual.ensures.1 in
    rw (r.1, r.2, told.0) (refused-narrow c.args.code.now c.type_inv.code c.args.s c.requires.0 _ told.1)

pub find_keys-count-requires : goal.find_keys-count-requires
find_keys-count-requires c =
    let b = c.args.code.now in
    (passed_with b _ c.requires.0 (omega (arith, c.requires)), near b c.type_inv.code c.args.s c.requires.0, keys_bound b c.type_inv.code c.args.s c.requires.0)

pub overflow_mul-key_bytes : goal.overflow_mul-key_bytes
overflow_mul-key_bytes c = omega (arith, few_keys c.args.code.now c.type_inv.code c.args.s c.requires.0 c.in_ok-mark.ensures.0 _ c.find_keys-count.ensures.found)

pub returns-then-not-has_room : goal.returns-then-not-has_room
returns-then-not-has_room c = refused-room c.args.code.now c.type_inv.code c.args.s c.requires.0 c.in_ok-mark.ensures.0 _ c.find_keys-count.ensures.found _ (sym c.has_room.ensures ∙ c.if-not-has_room.true)

pub write_records-requires-clause-passed : goal.write_records-requires-clause-passed
write_records-requires-clause-passed c = (passed_with c.args.code.now _ c.requires.0 (omega (arith, c.requires)), few_keys c.args.code.now c.type_inv.code c.args.s c.requires.0 c.in_ok-mark.ensures.0 _ c.find_keys-count.ensures.found, c.find_keys-count.ensures.found.inside)

pub write_records-requires-clause-room : goal.write_records-requires-clause-room
write_records-requires-clause-room c = room c.args.code.now c.type_inv.code c.args.s c.requires.0 c.in_ok-mark.ensures.0 _ c.find_keys-count.ensures.found _ (sym c.has_room.ensures ∙ c.if-not-has_room.false) _ _ c.in_ok-mark.ensures.1

pub write_keys-requires : goal.write_keys-requires
write_keys-requires c = (c.find_keys-count.ensures.found.inside, key-room c.args.code.now c.type_inv.code c.args.s c.requires.0 c.in_ok-mark.ensures.0 _ c.find_keys-count.ensures.found _ (sym c.has_room.ensures ∙ c.if-not-has_room.false))

pub returns : goal.returns
returns c = wrote_all c.args.code.now c.type_inv.code c.args.s c.requires.0 c.in_ok-mark.ensures.0 _ c.find_keys-count.ensures.found _ (sym c.has_room.ensures ∙ c.if-not-has_room.false) _ _ c.in_ok-mark.ensures.1 _ _ _ _ c.write_records.ensures c.write_keys.ensures
