-- One record more, which has the fields of its place (`record_at`).
use Rattle.std.proofs.Common.{◌+◌, ◌<◌, length, take, add-one, arith}
use Rattle.std.proofs.lemmas.List.{length-take-le}
use Rattle.records.specs.Fields.{records_from}
use Rattle.records.proofs.Onto.{blank, onto-step, onto_whole, record_at, records_many}
use Rattle.records.proofs.store.Goals as goal

pub loop-k-preserved : goal.loop-k-preserved
loop-k-preserved c =
    let l = c.loop-k in
    let a = c.args in
    let ks = a.kinds.now in let ns = a.numbers.now in let ps = a.places.now in
    let rs = take a.n a.records.now in
    let here : l.k < a.n = omega (arith, c.loop-k-test.true, length-take-le a.n a.records.now (omega arith)) in
    let many : l.k < length (records_from ks ns ps) = omega (arith, records_many ks ns ps (l.k + 1) (omega arith) (omega arith) (omega arith)) in
    record {
      records =
          rw (l.invariant.records, add-one, ← record_at ks ns ps l.k (omega arith) (omega arith) (omega arith))
          (onto-step l.k (records_from ks ns ps) rs blank many c.loop-k-test.true);
    }

pub returns : goal.returns
returns c =
    let l = c.loop-k in
    let a = c.args in
    let long = length-take-le a.n a.records.now (omega arith) in
    rw (l.invariant.records, onto_whole l.k a.n (records_from a.kinds.now a.numbers.now a.places.now) a.records.now long (omega arith))
