-- What a step tells (`step-told`) holds of the rest of the code.
use Rattle.std.proofs.Common.{◌≡◌, ℕ, List, Option, Some, None, ap, arith, eq-eqb, eqb, false, length, ne_eqb, refl, sym, ◌<◌, ◌∙◌}
use Rattle.semantics.specs.Parse.{command_at}
use Rattle.summary.specs.declared.Stepped.{Stepped}
use Rattle.summary.specs.declared.Summary.{Summary}
use Rattle.summary.specs.Step.{stepped}
use Rattle.summary.proofs.Bounds.{small-inside, small-next}
use Rattle.condition.specs.Walk.{walked}
use Rattle.condition.proofs.Steps.{Told, step-told, walk_ends, walk_follows}
use Rattle.condition.proofs.walk.Goals as goal

pub loop-s-init : goal.loop-s-init
unfolding walked
loop-s-init c = (omega arith, refl, omega arith, refl)

pub step-requires : goal.step-requires
step-requires c = small-inside _ _ c.loop-s-test.true c.requires c.loop-s.invariant.2

told : (code : List ℕ) (s : Summary) (inside : s.bytes < length code) (first : s.conditions ≡ 0) {r : Option Stepped} {t : Stepped}
    → r ≡ stepped (command_at code s.bytes) (length code) s → r ≡ Some t → (u : Stepped) → t ≡ u → Told code s inside first (Some u)
told code s inside first e f u g = step-told code s inside first (Some u) (sym e ∙ f ∙ ap Some g)

pub loop-s-preserved : goal.loop-s-preserved
loop-s-preserved c =
    let i = c.loop-s.invariant in
    let o = c.in-Some-Onward in
    let t = told c.args.code.now c.loop-s.s c.loop-s-test.true i.1 c.step.ensures o.is (Stepped.Onward o.next) o.field-0-is in (
      rw t.is t.operands,
      t.counted,
      rw t.is (small-next (command_at c.args.code.now c.loop-s.s.bytes) c.loop-s.s.bytes _ c.loop-s.s i.2),
      sym t.walk ∙ i.3,
    )

compared : (n : ℕ) → n ≡ 1 → eqb n 0 ≡ false
compared n e = ne_eqb n 0 (λ z. omega (arith, z, e))

pub returns-then-last-code : goal.returns-then-last-code
returns-then-last-code c =
    let i = c.loop-s.invariant in
    let o = c.in-Some-Compared in
    let t = told c.args.code.now c.loop-s.s c.loop-s-test.true i.1 c.step.ensures o.is (Stepped.Compared o.last) o.field-0-is in
    sym (t.walk ∙ walk_follows c.args.code.now _ c.if-last-code.true _ (λ z. omega (arith, z, t.counted))) ∙ i.3

pub returns-in-Some-Compared : goal.returns-in-Some-Compared
returns-in-Some-Compared c =
    let i = c.loop-s.invariant in
    let o = c.in-Some-Compared in
    let t = told c.args.code.now c.loop-s.s c.loop-s-test.true i.1 c.step.ensures o.is (Stepped.Compared o.last) o.field-0-is in
    rw (compared _ t.counted) at (sym (t.walk ∙ walk_ends c.args.code.now _ _ c.if-last-code.false) ∙ i.3)

pub returns-in-None : goal.returns-in-None
returns-in-None c =
    sym (step-told c.args.code.now c.loop-s.s c.loop-s-test.true c.loop-s.invariant.1 None (sym c.step.ensures ∙ c.in-None.is)) ∙ c.loop-s.invariant.3

pub returns : goal.returns
returns c =
    rw (eq-eqb _ _ c.loop-s.invariant.1) at (sym (walk_ends c.args.code.now c.loop-s.s.bytes c.loop-s.s c.loop-s-test.false) ∙ c.loop-s.invariant.3)
