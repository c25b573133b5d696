-- The top element lies within the bytes (`rises`), and is the last one (`top_some`).
use Rattle.std.proofs.Common.{length, arith}
use Rattle.witness.proofs.Left.{rises, top_none, top_some}
use Rattle.witness.proofs.top.Goals as goal

pub returns-in_err-k : goal.returns-in_err-k
returns-in_err-k c = rw (c.from_residual.ensures, top_none c.args.witness.now.bytes.now c.args.witness.now.ends.now c.args.n (omega (arith, c.in_err-k.ensures)))

pub slice_bounds-result-count : goal.slice_bounds-result-count
slice_bounds-result-count c =
    let k = c.in_ok-k.k in let w = c.args.witness.now in
    let r = rises (length w.bytes.now) w.ends.now w.sound k (omega (arith, c.in_ok-k.ensures, c.requires)) in
    omega (arith, c.start_of-start.ensures, r.0)

pub slice_bounds-result-start : goal.slice_bounds-result-start
slice_bounds-result-start c =
    let k = c.in_ok-k.k in let w = c.args.witness.now in
    let r = rises (length w.bytes.now) w.ends.now w.sound k (omega (arith, c.in_ok-k.ensures, c.requires)) in
    omega (arith, c.start_of-start.ensures, r.0, r.1)

pub slice_bounds-result-end : goal.slice_bounds-result-end
slice_bounds-result-end c =
    let k = c.in_ok-k.k in let w = c.args.witness.now in
    let r = rises (length w.bytes.now) w.ends.now w.sound k (omega (arith, c.in_ok-k.ensures, c.requires)) in
    omega (arith, c.start_of-start.ensures, r.0, r.1)

pub returns : goal.returns
returns c =
    let k = c.in_ok-k.k in let w = c.args.witness.now in
    rw (c.start_of-start.ensures, top_some w.bytes.now w.ends.now w.sound c.args.n k (omega (arith, c.in_ok-k.ensures)) c.requires)
