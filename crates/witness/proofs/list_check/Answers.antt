-- Four copies, one behind the other (`four_whole`).
use Rattle.std.proofs.Common.{arith, ◌*◌}
use Rattle.witness.proofs.Oracles.{four_whole}
use Rattle.witness.proofs.list_check.Goals as goal

pub returns : goal.returns
returns c =
    let a = c.args in
    let q = a.quote.now in
    let r = c.requires in
    rw (c.copy-4.ensures, c.copy-3.ensures, c.copy-2.ensures, c.copy.ensures)
    (four_whole a.out.now a.terminal.now q.time.now q.price.now q.signature.now (112 * a.n) (omega (arith, r.room)) (omega (arith, r.terminal)) r.time r.price r.signature)
