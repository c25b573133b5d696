-- A piece more in each turn; and the rule by the first terminal and the later ones.
use Rattle.std.proofs.Common.{arith, sym, ◌∙◌}
use Rattle.semantics.specs.Records.{records_of}
use Rattle.productions.proofs.Noted.{rows-fewer}
use Rattle.emission.specs.Pieces.{spot_of}
use Rattle.emission.proofs.Mets.{size_most}
use Rattle.emission.proofs.Emits.{judged-first, judged-kept, judged_later, judging_next, judging_start, or_later, same_first}
use Rattle.emission.proofs.judge.Goals as goal

pub loop-end-init : goal.loop-end-init
loop-end-init c = record {
  inside = omega arith;
  room = omega arith;
  judging = λ numbers places keys noted whole. judging_start (records_of c.args.kinds.now numbers places keys) c.args.start;
}

pub loop-end-preserved : goal.loop-end-preserved
loop-end-preserved c =
    let few = size_most (spot_of c.last_command-last.result).command in
    let low = c.last_command-last.ensures.falls in
    record {
      inside = omega arith;
      room = omega (arith, c.size-bytes.ensures);
      judging = λ numbers places keys noted whole.
          judging_next (records_of c.args.kinds.now numbers places keys) c.args.start c.loop-end.end c.loop-end.bytes c.loop-end.first c.loop-end.later
          (c.loop-end.invariant.judging numbers places keys noted whole) c.loop-end.invariant.inside whole c.loop-end-test.true (spot_of c.last_command-last.result)
          (c.last_command-last.ensures.met numbers places keys (rows-fewer _ _ _ _ noted c.loop-end.invariant.inside)) _
          (or_later c.loop-end.later c.loop-end.first c.eq-later.result c.eq-later.ensures)
          c.terminal-first.result c.terminal-first.ensures c.size-bytes.result c.size-bytes.ensures;
    }

pub returns-then-eq : goal.returns-then-eq
returns-then-eq c numbers places keys noted whole =
    judged-first _ _ _ _ _ _ (c.loop-end.invariant.judging numbers places keys noted whole) c.loop-end-test.false (sym (same_first c.loop-end.first) ∙ sym c.eq.ensures ∙ c.if-eq.true)

pub returns-then-later : goal.returns-then-later
returns-then-later c numbers places keys noted whole =
    judged_later _ _ _ _ _ _ (c.loop-end.invariant.judging numbers places keys noted whole) c.loop-end-test.false
    (sym (same_first c.loop-end.first) ∙ sym c.eq.ensures ∙ c.if-eq.false) c.if-later.true

pub returns : goal.returns
returns c numbers places keys noted whole =
    judged-kept _ _ _ _ _ _ (c.loop-end.invariant.judging numbers places keys noted whole) c.loop-end-test.false
    (sym (same_first c.loop-end.first) ∙ sym c.eq.ensures ∙ c.if-eq.false) c.if-later.false
