-- One command of code, by its position: what a loop over the code goes by.
use Rattle.std.proofs.Common.{Result, Ok, Err, Option, Some, None}
use Prim.Native.Nat.{ℕ, suc, ◌+◌, ◌-◌, ◌≤◌, ◌<◌}
use mathlib.Core.Path.{◌≡◌, refl, ap, ◌∙◌, subst}
use mathlib.Core.Bool.{Bool, true, false, cond}
use mathlib.Core.List.{List}
use native.Mathlib.Omega.{arith}
use borrow.Author.Tests.{eq-eqb, ltb-false, ltb-true, ne_eqb}
use lib.Dec.{eqb, ltb}
use lib.ListN.{length, drop, length-drop, length-take}
use Rattle.semantics.specs.declared.Command.{Command}
use Rattle.semantics.specs.Code.{Made, command_row, need_met}
use Rattle.semantics.specs.Parse.{Walk, after, command_at, fold, instructions, operands_at, passes}
use Rattle.semantics.proofs.Machine.{fold-ends, fold_takes, refused-stays}
use Rattle.summary.specs.declared.Stepped.{Stepped}
use Rattle.summary.specs.declared.Summary.{Summary}
use Rattle.summary.specs.Step.{made_as, stepped}
use Rattle.condition.specs.Walk.{counts, ended, next, summary_step}

-- what the rest of code brings a walk to
abbrev pub walk_from : List ℕ → ℕ → Summary → Result Summary ℕ
walk_from c at s = ended (fold summary_step (Walk.going at s) (instructions (drop at c)))

module _ (c : List ℕ) (at : ℕ) (inside : at < length c) (s : Summary) where
  abbrev width : ℕ
  width = (command_row (command_at c at)).width

  abbrev need : Bool
  need = need_met (command_row (command_at c at)) s.values s.indexes

  abbrev test : Bool
  test = passes (command_at c at) (operands_at c at) (counts s)

  -- the walk after a step that is known
  next_is : (g : Walk Summary) → summary_step (Walk.going at s) (command_at c at) (operands_at c at) ≡ g
      → walk_from c at s ≡ ended (fold summary_step g (instructions (drop (after c at) c)))
  next_is g e =
      ap ended
      (fold_takes summary_step c at inside (Walk.going at s)
      ∙ ap (λ (r : Walk Summary). fold summary_step r (instructions (drop (after c at) c))) e)

  refuses : test ≡ false → walk_from c at s ≡ Err at
  refuses e =
      next_is (Walk.refused at) (rw e)
      ∙ ap ended (refused-stays counts (λ d n r. next d r) (instructions (drop (after c at) c)) at)

  -- it follows a comparison
  pub walk_follows : (s.conditions ≡ 0 → ⊥) → walk_from c at s ≡ Err at
  walk_follows h = refuses (rw (ne_eqb s.conditions 0 h))

  -- its operand bytes are not all there
  pub walk_short : s.conditions ≡ 0 → length c - at - 1 < width → walk_from c at s ≡ Err at
  walk_short z h =
      let few : length (operands_at c at) ≡ width → ⊥ = λ e. omega (arith, simp (length-take, length-drop) at e) in
      refuses (rw (eq-eqb s.conditions 0 z, ne_eqb (length (operands_at c at)) width few))

  whole : width ≤ length c - at - 1 → length (operands_at c at) ≡ width
  whole h = simp (length-take, length-drop) (omega arith)

  -- its need is not met
  pub walk_fails : s.conditions ≡ 0 → width ≤ length c - at - 1 → need ≡ false → walk_from c at s ≡ Err at
  walk_fails z h e = refuses (rw (eq-eqb s.conditions 0 z, eq-eqb (length (operands_at c at)) width (whole h), e))

  -- it passes
  pub walk_takes : s.conditions ≡ 0 → width ≤ length c - at - 1 → need ≡ true → walk_from c at s ≡ walk_from c (after c at) (next (command_at c at) s)
  walk_takes z h e =
      let a : at + suc width ≡ after c at = omega arith in
      next_is (Walk.going (after c at) (next (command_at c at) s))
      (rw (eq-eqb s.conditions 0 z, eq-eqb (length (operands_at c at)) width (whole h), e, whole h, a))

pub walk_ends : (c : List ℕ) (at : ℕ) (s : Summary) → length c ≤ at
    → walk_from c at s ≡ cond (eqb s.conditions 0) (Err at) (Ok s)
walk_ends c at s h = ap ended (fold-ends summary_step c at h (Walk.going at s))

-- ---- what a step tells

module _ (c : List ℕ) (s : Summary) (inside : s.bytes < length c) (first : s.conditions ≡ 0) where
  abbrev command : Command
  command = command_at c s.bytes

  -- a summary with the command more, from which the walk goes on
  pub record Taken (t : Summary) (conditions : ℕ) : Type 0 where
    pub is : t ≡ next command s
    pub operands : s.bytes + 1 + (command_row command).width ≤ length c
    pub counted : t.conditions ≡ conditions
    pub walk : walk_from c s.bytes s ≡ walk_from c t.bytes t

  -- what follows from each answer
  abbrev pub Told : Option Stepped → Type 0
  Told (Some (Stepped.Onward t)) = Taken t 0
  Told (Some (Stepped.Compared t)) = Taken t 1
  Told None = walk_from c s.bytes s ≡ Err s.bytes

  pub step-told : (r : Option Stepped) → stepped command (length c) s ≡ r → Told r
  step-told r e = subst Told e (wide (ltb (length c - s.bytes - 1) (command_row command).width) refl)
    where
      taken : (n : ℕ) → (next command s).conditions ≡ n → (command_row command).width ≤ length c - s.bytes - 1
          → need_met (command_row command) s.values s.indexes ≡ true → Taken (next command s) n
      taken n q h m = record { is = refl; operands = omega (arith, h, inside); counted = q; walk = walk_takes c s.bytes inside s first h m }

      made : (m : Made) → (command_row command).makes ≡ m → (command_row command).width ≤ length c - s.bytes - 1
          → need_met (command_row command) s.values s.indexes ≡ true → Told (Some (made_as m (next command s)))
      made Made.nothing q h d = taken 0 (rw q (omega (arith, first))) h d
      made Made.index q h d = taken 0 (rw q (omega (arith, first))) h d
      made Made.value q h d = taken 0 (rw q (omega (arith, first))) h d
      made Made.condition q h d = taken 1 (rw q (omega (arith, first))) h d

      met : (b : Bool) → need_met (command_row command) s.values s.indexes ≡ b → (command_row command).width ≤ length c - s.bytes - 1
          → Told (cond b (Some (made_as (command_row command).makes (next command s))) None)
      met true d h = made (command_row command).makes refl h d
      met false d h = walk_fails c s.bytes inside s first h d

      wide : (b : Bool) → ltb (length c - s.bytes - 1) (command_row command).width ≡ b
          → Told (cond b None (cond (need_met (command_row command) s.values s.indexes) (Some (made_as (command_row command).makes (next command s))) None))
      wide true q = walk_short c s.bytes inside s first (ltb-true (length c - s.bytes - 1) (command_row command).width q)
      wide false q = met (need_met (command_row command) s.values s.indexes) refl (ltb-false (length c - s.bytes - 1) (command_row command).width q)
