-- Numbers are compared by their bits (`eq_bits`).
use Rattle.std.proofs.Common.{◌≡◌, ◌-◌, ◌^◌, ◌&&◌, ◌||◌, eqb, pos, negsuc, arith, w64, of_z, ne_eqb}
use Rattle.word64.proofs.Laws.{eq_bits}
use Rattle.num64.specs.SignCases.{no_quotient}
use Rattle.num64.proofs.has_no_quotient.Statement.{statement}
use Rattle.num64.proofs.has_no_quotient.Tie as tie

by_bits : (s : tie.Start)
    → let a = s.args.a in
    let b = s.args.b in
    eqb (of_z w64 b) 0 || (eqb (of_z w64 b) (2 ^ 64 - 1) && eqb (of_z w64 a) (2 ^ 63)) ≡ no_quotient a b
by_bits s =
    rw (
      eq_bits s.args.b (pos 0) s.ranges.b (record { sfits = omega arith }),
      eq_bits s.args.b (negsuc 0) s.ranges.b (record { sfits = omega arith }),
      eq_bits s.args.a (negsuc (2 ^ 63 - 1)) s.ranges.a (record { sfits = omega arith }),
    )

returns : tie.Need-returns-in-0
returns c = rw c.in-0.in-0-own.keys1 at (by_bits c.before)

returns-2 : tie.Need-returns-in-minus1
returns-2 c = rw c.in-minus1.in-minus1-own.keys2 at (by_bits c.before)

returns-3 : tie.Need-returns-in_default
returns-3 c =
    let b = of_z w64 c.args.b in
    rw (ne_eqb b 0 c.in_default.in_default-own.rest.0.1, ne_eqb b (2 ^ 64 - 1) c.in_default.in_default-own.rest.1) at (by_bits c.before)

pub has_no_quotient_spec : {M : Type 1} → statement M
has_no_quotient_spec = tie.close (tie.spec returns returns-2 returns-3)
