-- The row is the form's (Rows.antt), and the fields are those of the command's tokens.
use Rattle.std.proofs.Common.{refl, sym, ap, ◌∙◌, ℕ, ◌*◌, cond, eqb}
use Rattle.semantics.specs.Code.{command_row}
use Rattle.semantics.specs.Write.{index_of}
use Rattle.keys.specs.Keys.{key_at, keys_at}
use Rattle.keys.proofs.Noting.{key_of}
use Rattle.semantics.specs.Parse.{operand_bytes}
use Rattle.token_form.proofs.Storing.{row_leaves}
use Rattle.token_form.proofs.write_command.Goals as goal

pub returns-clause-stored : goal.returns-clause-stored
returns-clause-stored c =
    let a = c.args in
    let p = c.payload_of-payload.ensures in
    let ks = keys_at a.code.now a.positions.now in
    let key = λ (w : ℕ). cond (eqb w 40) (32 * index_of (key_at a.code.now a.at) ks) 0 in
    let placed = p.2 ∙ c.place_of-place.ensures ∙ ap key c.width_of.ensures ∙ sym (key_of (λ k. 32 * index_of k ks) 0 a.code.now a.at (command_row a.command).width) in
    row_leaves a.command c.requires.command_value.0 (operand_bytes a.command a.code.now a.at) a.marked c.token_row-row.result.now c.token_row-row.ensures _ refl _ _ _ ks _ _
    (p.0, p.1) placed c.write_row.ensures.kinds_after c.write_row.ensures.numbers_after c.write_row.ensures.places_after
