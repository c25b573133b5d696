-- A read's bytes come after those that were there, and are what the input had next; a full buffer has more bytes than code may have (`same_sheet`).
use Rattle.std.proofs.Common.{ℕ, ◌≡◌, ◌+◌, ◌≤◌, List, ◌++◌, length, take, drop, ap, ◌∙◌, sym, append_assoc, arith, rules}
use Rattle.std.proofs.Math.Seq.{length-take-le, take-append-add}
use Rattle.std.proofs.lemmas.List.{take-append-le}
use Rattle.std.specs.Prelude.{Option, None, Some}
use Rattle.std.specs.Io.KnownBytes.{Consumes}
use borrow.Rule.Slice.PartMut.{put_mid}
use Rattle.sheet.proofs.Laws.{same_sheet}
use Rattle.listing.proofs.read_input.Goals as goal

front : (code part : List ℕ) (n k more : ℕ) → n ≤ length code → more ≤ length part → take (n + more) (put_mid n k code part) ≡ take n code ++ take more part
front code part n k more h m =
    let l : length (take n code) ≡ n = length-take-le n code h in
    let e = take-append-add (take n code) (part ++ drop k (drop n code)) more in
    (rw l at e) ∙ ap (λ x. take n code ++ x) (take-append-le more part (drop k (drop n code)) m)

taken_more : (old now new : Option (List ℕ)) (bytes more : List ℕ) → Consumes old now bytes → Consumes now new more → Consumes old new (bytes ++ more)
taken_more None now new bytes more a b = tt
taken_more (Some xs) None new bytes more a b = absurd a
taken_more (Some xs) (Some ys) None bytes more a b = absurd b
taken_more (Some xs) (Some ys) (Some zs) bytes more a b = rw (a, b) (sym (append_assoc bytes more zs))

pub loop-n-preserved : goal.loop-n-preserved
loop-n-preserved g c =
    let read = c.in_ok-more in
    record {
      same_length = search rules;
      inside = search rules;
      taken = rw (front c.loop-n.code c.read.new.buf c.loop-n.n _ read.more c.loop-n.invariant.inside read.ensures.bound.0)
          (taken_more _ _ _ _ _ c.loop-n.invariant.taken read.ensures.bytes.0);
    }

pub returns-clause-read : goal.returns-clause-read
returns-clause-read g c = (c.loop-n.invariant.inside, λ e more. same_sheet c.loop-n.code more (omega arith))
