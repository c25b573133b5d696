-- The time's test, then the check and the price's value (`judged_in_future`, `judged-listed`).
use Rattle.std.proofs.Common.{ap, arith, drop, sym, ◌∙◌}
use Rattle.std.proofs.lemmas.List.{take_all}
use lib.ListN.{length-drop}
use Rattle.slices.specs.Bytes.{bytes_value}
use Rattle.witness.specs.Oracle.{priced}
use Rattle.witness.proofs.Oracles.{judged_in_future, judged-listed}
use Rattle.witness.proofs.judge.Goals as goal

pub returns-then-in_future : goal.returns-then-in_future
returns-then-in_future c w ends =
    let a = c.args in
    let q = a.quote.now in
    let terminal = a.terminal.now in
    let time = c.read_le64-time.ensures.value ∙ ap bytes_value (take_all 8 (drop 32 terminal) (rw length-drop (omega (arith, c.requires.terminal)))) in
    let quoted = c.read_le64.ensures.value ∙ ap bytes_value (take_all 8 q.time.now (omega (arith, c.requires.time))) in
    judged_in_future terminal q.price.now q.time.now q.signature.now w ends a.out.now a.progress.now _ time (rw quoted at (sym c.in_future.ensures ∙ c.if-in_future.true))

pub returns : goal.returns
returns c w ends =
    let a = c.args in
    let q = a.quote.now in
    let r = c.requires in
    let terminal = a.terminal.now in
    let time = c.read_le64-time.ensures.value ∙ ap bytes_value (take_all 8 (drop 32 terminal) (rw length-drop (omega (arith, r.terminal)))) in
    let quoted = c.read_le64.ensures.value ∙ ap bytes_value (take_all 8 q.time.now (omega (arith, r.time))) in
    let price = c.read_le64-2.ensures.value ∙ ap bytes_value (take_all 8 q.price.now (omega (arith, r.price))) in
    rw c.list_check.ensures
    (judged-listed terminal q.price.now q.time.now q.signature.now w ends a.out.now a.progress.now _ time
    r.room r.terminal r.price r.time r.signature (rw quoted at (sym c.in_future.ensures ∙ c.if-in_future.false)) _ (c.price_value.ensures ∙ ap priced price))
