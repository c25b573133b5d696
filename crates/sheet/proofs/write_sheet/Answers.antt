-- The sheet is the refusal's line or the lines of the commands, as Check answers.
use Rattle.std.proofs.Common.{sym, ◌∙◌, arith}
use Rattle.condition.proofs.Onward.{passed_with, told}
use Rattle.semantics.proofs.Passing.{passed_short}
use Rattle.sheet.proofs.Lines.{refusal_long, sheet-passed, sheet-refused}
use Rattle.sheet.proofs.write_sheet.Goals as goal

pub write_lines-requires : goal.write_lines-requires
write_lines-requires c =
    let code = c.args.code.now in
    let passes = sym c.examine.ensures ∙ c.in-Ok.is in
    (passed_with code _ passes tt, passed_short code _ _ (told code _ passes), omega arith)

pub returns-in-Err : goal.returns-in-Err
returns-in-Err c =
    let code = c.args.code.now in
    let e = told code _ (sym c.examine.ensures ∙ c.in-Err.is) in
    let q = sheet-refused code _ e in
    (rw (q, refusal_long code _ e), rw q c.write_refusal.ensures)

pub returns-in-Ok : goal.returns-in-Ok
returns-in-Ok c =
    let code = c.args.code.now in
    let q = sheet-passed code _ _ (told code _ (sym c.examine.ensures ∙ c.in-Ok.is)) in
    let w = c.write_lines.ensures in
    (rw (q, ← w.0), rw q w.1)
