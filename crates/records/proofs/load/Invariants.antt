-- The fields of the first i records are copied.
use Rattle.std.proofs.Common.{◌≡◌}
use Rattle.records.specs.Fields.{kinds_of, numbers_of, places_of}
use Rattle.records.proofs.Onto.{onto}
use Rattle.records.proofs.load.Given as goal

abbrev pub invariant-loop-i : goal.invariant-loop-i
invariant-loop-i l = record {
  kinds : l.kinds ≡ onto l.i (kinds_of l.records) l.initial.kinds;
  numbers : l.numbers ≡ onto l.i (numbers_of l.records) l.initial.numbers;
  places : l.places ≡ onto l.i (places_of l.records) l.initial.places;
}
