-- The hyphen before the digits of the amount.
use Rattle.std.proofs.Common.{◌≡◌, ◌∷◌, ◌<◌, ◌≤◌, arith, length, rules}
use Rattle.word64.specs.Bits.{signed_of}
use Rattle.decimals.specs.Decimal.{decimal, hyphen, signed}
use Rattle.decimals.proofs.Ends.{digits_fit, ending-length, ending_more, signed_above, signed_below}
use Rattle.decimals.proofs.write_signed.Goals as goal

pub write_decimal-start-requires : goal.write_decimal-start-requires
write_decimal-start-requires c =
    let fit : length (decimal c.unsigned_abs.result) ≤ length (signed (signed_of c.args.bits)) =
    digits_fit c.args.bits c.signed-number.result c.ranges.bits.fits (search rules) (search rules) in
    omega (arith, fit)

-- the text of a negative number, and that its digits leave room for the hyphen
text : (c : goal.Then-is_negative) → signed (signed_of c.args.bits) ≡ hyphen ∷ decimal c.unsigned_abs.result
text c = signed_below c.args.bits c.signed-number.result c.ranges.bits.fits (search rules) (search rules) (search rules)

room : (c : goal.Then-is_negative) → 0 < c.write_decimal-start.result
room c = let t = text c in omega (arith, rw t at c.requires, c.write_decimal-start.ensures.ends)

pub overflow_sub-start : goal.overflow_sub-start
overflow_sub-start c = room c

pub bounds-out-start : goal.bounds-out-start
bounds-out-start c = omega (arith, room c, ending-length c.write_decimal-start.ensures, c.write_decimal-start.ensures.ends)

pub returns-then-is_negative : goal.returns-then-is_negative
returns-then-is_negative c = let t = text c in rw t (ending_more hyphen c.write_decimal-start.ensures (room c))

pub returns-else-is_negative : goal.returns-else-is_negative
returns-else-is_negative c =
    let t = signed_above c.args.bits c.signed-number.result c.ranges.bits.fits (search rules) (search rules) (search rules) in
    rw t c.write_decimal-start.ensures
