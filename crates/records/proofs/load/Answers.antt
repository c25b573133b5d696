-- One record more: of each of its fields, `field_step`.
use Rattle.std.proofs.Common.{◌<◌, add-one, arith}
use Rattle.std.proofs.lemmas.List.{length-take-le}
use Rattle.records.specs.declared.TokenRecord.{TokenRecord}
use Rattle.records.proofs.Onto.{field_step}
use Rattle.records.proofs.load.Goals as goal

pub loop-i-preserved : goal.loop-i-preserved
loop-i-preserved c =
    let l = c.loop-i in
    let a = c.args in
    let rs = a.records.now in
    let here : l.i < a.n = omega (arith, c.loop-i-test.true, length-take-le a.n rs (omega arith)) in
    record {
      kinds = rw (l.invariant.kinds, add-one) (field_step (λ (r : TokenRecord). r.kind) a.n rs a.kinds.now l.i here (omega arith) (omega arith));
      numbers = rw (l.invariant.numbers, add-one) (field_step (λ (r : TokenRecord). r.number) a.n rs a.numbers.now l.i here (omega arith) (omega arith));
      places = rw (l.invariant.places, add-one) (field_step (λ (r : TokenRecord). r.place) a.n rs a.places.now l.i here (omega arith) (omega arith));
    }
