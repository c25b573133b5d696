-- Each turn stores one element of each column (`over_turn`).
use Rattle.std.proofs.Common.{map}
use Rattle.token_table.specs.Kinds.{number}
use Rattle.token_form.specs.Fields.{number_at, place_at}
use Rattle.token_form.proofs.Over.{over_end, over_turn, same_row}
use Rattle.token_form.proofs.write_row.Goals as goal

pub loop-j-preserved : goal.loop-j-preserved
loop-j-preserved c =
    let a = c.args in
    let i = c.loop-j.invariant in
    record {
      kinds = over_turn (λ k. k) a.row.now a.kinds.now _ c.loop-j.j _ _ c.loop-j-test.true c.requires.0 i.kinds c.number.ensures;
      numbers = over_turn (number_at a.payload.number a.payload.bits) a.row.now a.numbers.now _ c.loop-j.j _ _ c.loop-j-test.true c.requires.1 i.numbers c.fields-number.ensures.0;
      places = over_turn (place_at a.payload.place) a.row.now a.places.now _ c.loop-j.j _ _ c.loop-j-test.true c.requires.2 i.places c.fields-number.ensures.1;
    }

pub returns-clause-kinds_after : goal.returns-clause-kinds_after
returns-clause-kinds_after c = rw (same_row (map number c.args.row.now)) at (over_end (λ k. k) c.args.row.now c.args.kinds.now _ c.loop-j.j c.loop-j-test.false c.loop-j.invariant.kinds)

pub returns-clause-numbers_after : goal.returns-clause-numbers_after
returns-clause-numbers_after c = over_end (number_at c.args.payload.number c.args.payload.bits) c.args.row.now c.args.numbers.now _ c.loop-j.j c.loop-j-test.false c.loop-j.invariant.numbers

pub returns-clause-places_after : goal.returns-clause-places_after
returns-clause-places_after c = over_end (place_at c.args.payload.place) c.args.row.now c.args.places.now _ c.loop-j.j c.loop-j-test.false c.loop-j.invariant.places
