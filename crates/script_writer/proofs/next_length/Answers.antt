-- A command's own bytes are its piece's (`own_long`), and a mark adds one.
use Rattle.std.proofs.Common.{◌≡◌, ap, sym, refl, ◌∙◌, length, length-append, Bool, true, false}
use mir.Val.{bool_byte}
use Rattle.commands.specs.declared.Cursor.{Cursor}
use Rattle.script_writer.proofs.Commands.{converted_bytes}
use Rattle.script_writer.proofs.Own.{all_bytes, own, own_long}
use Rattle.script_writer.proofs.next_length.Goals as goal

marked-one : (b : Bool) → bool_byte b ≡ length (converted_bytes b)
marked-one true = refl
marked-one false = refl

pub returns : goal.returns
returns c =
    let p = rw c.next-here.ensures at c.piece_of.ensures in
    let counted : length (own c.args.code.now c.args.at) ≡ c.piece_length-own.result = own_long c.args.code.now c.args.at c.piece_of.result p ∙ sym c.piece_length-own.ensures in (
      rw (all_bytes c.args.code.now c.args.at c.args.marked, length-append (own c.args.code.now c.args.at) (converted_bytes c.args.marked), counted, marked-one c.args.marked),
      ap (λ (k : Cursor). k.next) c.next-here.ensures,
    )
