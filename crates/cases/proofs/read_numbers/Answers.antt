-- One number more at the front; and all that there is room for.
use Rattle.std.proofs.Common.{◌≡◌, arith, length, refl, take}
use Rattle.std.proofs.lemmas.List.{length-take-le}
use Rattle.cases.specs.Cases.{numbers_by}
use Rattle.cases.proofs.Reading.{count_is, count_most, put_all, put_more}
use Rattle.cases.proofs.read_numbers.Goals as goal

pub loop-i-init : goal.loop-i-init
unfolding numbers_by
loop-i-init g c = refl

pub loop-i-preserved : goal.loop-i-preserved
loop-i-preserved g c =
    let most = count_most (length c.args.out.now) (length c.part-part.result.now) _ g.T.Number.SIZE c.min-count.ensures g.met.T.Number.not_empty (omega arith) in
    let long : length (take c.min-count.result c.args.out.now) ≡ c.min-count.result = length-take-le c.min-count.result c.args.out.now (omega arith) in
    put_more g.T.Number.of g.T.Number.SIZE c.part-part.result.now c.loop-i.number-items c.loop-i.i _ (omega arith) (omega arith) c.nth.ensures c.loop-i.invariant

pub returns : goal.returns
returns g c =
    -- no size is 0, so that it is proved too where the code divides by the greater of the size and 1: the edit half_of_the_four_bytes with the right value
    let count = count_is (length c.args.out.now) (length c.part-part.result.now) _ g.T.Number.SIZE c.min-count.ensures (omega (arith, g.met.T.Number.not_empty)) in
    let long : length (take c.min-count.result c.args.out.now) ≡ c.min-count.result = length-take-le c.min-count.result c.args.out.now (omega arith) in
    let here : c.loop-i.i ≡ c.min-count.result = omega arith in
    rw (← c.part-part.ensures)
    (put_all g.T.Number.of g.T.Number.SIZE c.part-part.result.now c.loop-i.number-items _ c.min-count.result (length c.args.out.now) count (omega arith)
    (rw here at c.loop-i.invariant))
