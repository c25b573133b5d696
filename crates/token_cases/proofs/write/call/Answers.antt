-- The call is lent the front of each buffer, and the rest is kept (`left`).
use Rattle.token_cases.proofs.Writing.{answered, left}
use Rattle.token_cases.proofs.write.call.Goals as goal

pub returns : goal.returns
returns c =
    let a = c.args in
    let p = rw c.nth.ensures at c.at_most-kind_room.ensures in
    let q = rw c.nth-2.ensures at c.at_most-number_room.ensures in
    let r = rw c.nth-3.ensures at c.at_most-place_room.ensures in
    let s = rw c.nth-4.ensures at c.at_most-key_room.ensures in
    record {
      value = answered a.body.now c.part.result.now c.part-known.result.now a.kinds.now a.numbers.now a.places.now a.keys.now _ _ _ _
          c.part.ensures c.part-known.ensures p q r s _ c.covenant_write.ensures.value;
      keys_after = left a.body.now c.part.result.now c.part-known.result.now a.kinds.now a.numbers.now a.places.now a.keys.now _ _ _ _
          c.part.ensures c.part-known.ensures p q r s _ _ _ _ c.covenant_write.ensures.keys_after;
    }
