-- A record whose fields are there is as sound as they are; the first whose fields are not there is unsound.
use Rattle.std.proofs.Common.{◌≡◌, sym, ap, arith, ◌∙◌}
use Rattle.emission.specs.Pieces.{records_in}
use Rattle.decoder.specs.Sound.{scanned}
use Rattle.decoder.proofs.Scans.{no_field, sound_fields, unsound-here, unsound-next, unsound_none}
use Rattle.decoder.proofs.soundness.scan.Goals as goal

pub returns-then-not-fields_sound : goal.returns-then-not-fields_sound
returns-then-not-fields_sound c =
    let r = records_in c.args.columns.now in
    let fields = sound_fields r c.loop-i.i (omega arith) (omega arith) ∙ sym c.fields_sound.ensures ∙ c.if-not-fields_sound.true in
    ap scanned (sym (unsound-here r c.loop-i.i _ (omega arith) fields) ∙ c.loop-i.invariant)

pub loop-i-preserved : goal.loop-i-preserved
loop-i-preserved c =
    let r = records_in c.args.columns.now in
    let fields = sound_fields r c.loop-i.i (omega arith) (omega arith) ∙ sym c.fields_sound.ensures ∙ c.if-not-fields_sound.false in
    sym (unsound-next r c.loop-i.i _ (omega arith) fields) ∙ c.loop-i.invariant

pub returns-then-paired-kinds : goal.returns-then-paired-kinds
returns-then-paired-kinds c =
    let r = records_in c.args.columns.now in
    let last : c.loop-i.i ≡ c.min-paired.result = omega arith in
    rw (← last) (ap scanned (sym (unsound-here r c.loop-i.i _ (omega arith) (no_field r c.loop-i.i (λ g h. omega arith))) ∙ c.loop-i.invariant))

pub returns : goal.returns
returns c =
    ap scanned (sym (unsound_none (records_in c.args.columns.now) c.loop-i.i _ (omega arith)) ∙ c.loop-i.invariant)
