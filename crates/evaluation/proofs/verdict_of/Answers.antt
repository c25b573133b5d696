-- Each refusal is a test's (`refused-first` to `refused_buffer`); what the run answers is the tree's (`answers`).
use Rattle.std.proofs.Common.{◌≡◌, Err, ap, arith, refl, sym}
use Rattle.summary.specs.declared.Summary.{Summary}
use Rattle.condition.proofs.Onward.{few_oracles, passed, passed_with}
use Rattle.evaluation.proofs.Calls.{answers, lent, refused-amounts, refused_buffer, refused-first, refused-witness}
use Rattle.evaluation.proofs.verdict_of.Goals as goal

pub returns-in_err-summary : goal.returns-in_err-summary
returns-in_err-summary c =
    let a = c.args in
    let passed_on : c.from_residual.result ≡ Err c.in_err-summary.field-0.0 = grind arith in
    rw (passed_on, c.requires) (refused-first a.code.now (lent a.transaction.now a.witness.now a.ends.now a.out.now) _ (sym c.in_err-summary.ensures))

pub returns-then-not-is_sound : goal.returns-then-not-is_sound
returns-then-not-is_sound c =
    let a = c.args in
    rw c.requires
    (refused-amounts a.code.now c.type_inv.code (lent a.transaction.now a.witness.now a.ends.now a.out.now) _ (sym c.in_ok-summary.ensures) c.if-not-is_sound.ensures)

pub returns-in_err-witness : goal.returns-in_err-witness
returns-in_err-witness c =
    let a = c.args in
    let passed_on : c.from_residual-in_err-witness.result ≡ Err c.in_err-witness.field-0.0 = grind arith in
    let unsound = c.in_err-witness.ensures.err in
    rw (passed_on, unsound.0, c.requires)
    (refused-witness a.code.now c.type_inv.code (lent a.transaction.now a.witness.now a.ends.now a.out.now) _ (sym c.in_ok-summary.ensures) c.if-not-is_sound.ensures
    unsound.1)

pub overflow_mul-summary : goal.overflow_mul-summary
overflow_mul-summary c =
    let p = passed c.args.code.now c.in_ok-summary.summary (sym c.in_ok-summary.ensures) in
    omega (arith, few_oracles _ p, ap (λ (s : Summary). s.oracles) p.known)

pub returns-then-out-summary : goal.returns-then-out-summary
returns-then-out-summary c =
    let a = c.args in
    let w = c.in_ok-witness in
    let same = w.ensures.ok in
    rw c.requires
    (refused_buffer a.code.now c.type_inv.code (lent a.transaction.now a.witness.now a.ends.now a.out.now) _ (sym c.in_ok-summary.ensures) c.if-not-is_sound.ensures
    (rw (same.0, same.1) at w.witness.sound) c.if-out-summary.true)

pub run_passed-requires-clause-passed : goal.run_passed-requires-clause-passed
run_passed-requires-clause-passed c =
    passed_with c.args.code.now c.in_ok-summary.summary (sym c.in_ok-summary.ensures) (refl, c.if-out-summary.false)

pub returns : goal.returns
returns c =
    let a = c.args in
    let w = c.in_ok-witness in
    let same = w.ensures.ok in
    answers a.code.now c.type_inv.code (lent a.transaction.now a.witness.now a.ends.now a.out.now) _ (sym c.in_ok-summary.ensures) c.if-not-is_sound.ensures
    (rw (same.0, same.1) at w.witness.sound) c.if-out-summary.false _ (rw (same.0, same.1) at c.run_passed.ensures)
