-- The records so far were sound.
use Rattle.std.proofs.Common.{◌≡◌, ◌-◌, length}
use Rattle.semantics.specs.Records.{unsound, unsound_from}
use Rattle.emission.specs.Pieces.{records_in}
use Rattle.decoder.proofs.soundness.scan.Given as goal

abbrev pub invariant-loop-i : goal.invariant-loop-i
invariant-loop-i l =
    let r = records_in l.columns in unsound_from r l.i (length r.kinds - l.i) ≡ unsound r
