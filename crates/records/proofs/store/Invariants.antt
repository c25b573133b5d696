-- The first k records are made of the slices.
use Rattle.std.proofs.Common.{◌≡◌, take}
use Rattle.records.specs.Fields.{records_from}
use Rattle.records.proofs.Onto.{onto}
use Rattle.records.proofs.store.Given as goal

abbrev pub invariant-loop-k : goal.invariant-loop-k
invariant-loop-k l = record {
  records : l.record-items ≡ onto l.k (records_from l.kinds l.numbers l.places) (take l.n l.fn.records);
}
