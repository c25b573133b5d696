-- The ends that are left to judge, after the last one, are as sound as all of them.
use Rattle.std.proofs.Common.{◌≡◌, drop}
use Rattle.semantics.specs.Evaluate.{ends_sound}
use Rattle.witness.proofs.ends_sound.Given as goal

abbrev pub invariant-loop-end : goal.invariant-loop-end
invariant-loop-end l = ends_sound l.last l.fn.size (drop l.end-index l.fn.ends) ≡ ends_sound 0 l.fn.size l.fn.ends
