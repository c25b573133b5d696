-- What the first kinds of the row make stands over each column as it was.
use Rattle.std.proofs.Common.{◌≡◌, map, take}
use Rattle.slices.specs.Bytes.{over}
use Rattle.token_table.specs.Kinds.{number}
use Rattle.token_form.specs.Fields.{number_at, place_at}
use Rattle.token_form.proofs.write_row.Given as goal

abbrev pub invariant-loop-j : goal.invariant-loop-j
invariant-loop-j l = record {
  kinds : l.kinds ≡ over (take l.j (map (λ k. k) (map number l.row))) l.initial.kinds;
  numbers : l.numbers ≡ over (take l.j (map (number_at l.payload.number l.payload.bits) (map number l.row))) l.initial.numbers;
  places : l.places ≡ over (take l.j (map (place_at l.payload.place) (map number l.row))) l.initial.places;
}
