-- The command is the cursor's, and its operand bytes stand behind it.
use borrow.Author.Rules.{rules}
use mathlib.Core.Path.{◌≡◌, ap, ◌∙◌}
use Prim.Native.Nat.{ℕ, ◌<◌}
use mathlib.Core.List.{List, [], ◌∷◌, ◌++◌}
use native.Mathlib.Numerals.{add-one}
use lib.ListN.{get_or}
use Rattle.slices.proofs.Bytes.{all_of}
use Rattle.commands.specs.declared.Cursor.{Cursor}
use Rattle.semantics.specs.Parse.{command_at, operands_at}
use Rattle.sheet.specs.Sheet.{columns, line_feed, operand}
use Rattle.sheet.specs.Fields.{text_of}
use Rattle.sheet.proofs.Lines.{whole_operand}
use Rattle.sheet.proofs.Wide.{command_few, offset_few}
use Rattle.sheet.proofs.write_line.Statement.{statement}
use Rattle.sheet.proofs.write_line.Tie as tie

module _ (n : tie.After-next-cursor) where
  abbrev s : tie.Start
  s = n.before.before.before

  abbrev code : List ℕ
  code = s.args.code.now

-- the operand's text
told : (o : tie.After-operand_of-operand) → let n = o.before in text_of o.operand_of-operand.result ≡ operand (command_at (code n) (s n).args.at) (operands_at (code n) (s n).args.at)
told o = rw (o.next-cursor.ensures, add-one (s o.before).args.at) at o.operand_of-operand.ensures

-- what the columns hold has room in them
write-columns-requires : tie.Need-write_columns-requires
write-columns-requires c κs =
    let o = c.before.before in
    let s = s o.before in
    let w = s.requires.1 in
    let bytes = all_of (λ x. x < 256) s.args.code.now 0 (λ i. (c.shared_slice_known-2-1.given i).fits) in
    (s.requires.0, offset_few s.args.at w.near, command_few (get_or s.args.code.now s.args.at 0) w.known, rw (told o) (whole_operand s.args.code.now s.args.at bytes w))

pub write_line_spec : {M : Type 1} → statement M
write_line_spec =
    tie.close
    (tie.spec
    (λ c κs. c.requires.1.operands)
    (λ c κs. rw c.next-cursor.ensures (s c).requires.1.operands)
    (λ c. search rules)
    write-columns-requires
    (λ c. search rules)
    (λ c.
    let w = c.before.before in
    let o = w.before.before.before in
    let n = o.before in (
      ap (λ (c : Cursor). c.next) n.next-cursor.ensures,
      w.write_columns.ensures ∙ ap (λ (t : List ℕ). columns (s n).args.at (get_or (code n) (s n).args.at 0) t ++ line_feed ∷ []) (told o),
    )))
