-- Code that Check lets pass: what a loop over it knows at each command.
use Rattle.std.proofs.Common.{Result, Ok, Err}
use Prim.Native.Nat.{ℕ, suc, ◌+◌, ◌-◌, ◌≤◌, ◌<◌}
use mathlib.Core.Path.{◌≡◌, refl, sym, ◌∙◌}
use mathlib.Core.Bool.{Bool, true, false, cond, ◌&&◌}
use mathlib.Core.List.{List, [], ◌∷◌}
use mathlib.Core.Option.{Option, none, some}
use native.Mathlib.Omega.{arith}
use borrow.Author.Tests.{eqb-false, leb-false, leb-true}
use lib.Dec.{eqb, leb, ltb}
use lib.ListN.{length, drop}
use Rattle.semantics.specs.Refusals.{first_of, unless}
use Rattle.semantics.specs.declared.Command.{Command}
use Rattle.semantics.specs.declared.Refusal.{Refusal}
use Rattle.semantics.specs.Check.{checked}
use Rattle.semantics.specs.Code.{command_of, command_row, need_met, max_code, max_tokens}
use Rattle.semantics.specs.Parse.{Instruction, Walk, after, command_at, fold, instructions, passes}
use Rattle.summary.proofs.Counts.{given_one}
use Rattle.semantics.proofs.Instructions.{need-known}
use Rattle.semantics.proofs.Machine.{refused-stays}
use Rattle.semantics.proofs.Tests.{and_true}
use Rattle.summary.specs.declared.Summary.{Summary}
use Rattle.summary.specs.Step.{given}
use Rattle.summary.proofs.Bounds.{modest, oracles_grow, some_token}
use Rattle.summary.proofs.Rows.{larger_most}
use Rattle.condition.specs.Walk.{Passed, checked_as, counts, ended, examined, judged_walk, next, refusal_of, start, summary_step, told_unless, walked}
use Rattle.condition.proofs.Checks.{checked_walk}
use Rattle.condition.proofs.Steps.{walk_ends, walk_fails, walk_short, walk_takes, walk_from}

-- code that passes is what the walk comes to
pub passed : (c : List ℕ) (s : Summary) → examined c ≡ Ok s → Passed c (λ t. t ≡ s)
unfolding examined
passed c s e = long (ltb max_code (length c)) e
  where
    ruled : (r : Option Refusal) (t : Summary) → told_unless (first_of (r ∷ [])) t ≡ Ok s → t ≡ s
    ruled none t q = cc
    ruled (some r) t q = absurd (let z : ◌≡◌ {A = ℕ} 0 1 = cc in omega arith)

    few : (b : Bool) (t : Summary) → walked c ≡ Ok t → leb t.tokens max_tokens ≡ b
        → told_unless (first_of (unless b Refusal.TooManyTokens ∷ refusal_of t.rule ∷ [])) t ≡ Ok s → Passed c (λ t. t ≡ s)
    few true t w b q = record { last = t; walk = w; few = leb-true t.tokens max_tokens b; known = ruled (refusal_of t.rule) t q }
    few false t w b q = absurd (let z : ◌≡◌ {A = ℕ} 0 1 = cc in omega arith)

    ends : (w : Result Summary ℕ) → walked c ≡ w → judged_walk w ≡ Ok s → Passed c (λ t. t ≡ s)
    ends (Err at) w q = absurd (let z : ◌≡◌ {A = ℕ} 0 1 = cc in omega arith)
    ends (Ok t) w q = few (leb t.tokens max_tokens) t w refl q

    long : (b : Bool) → cond b (Err Refusal.CodeTooLong) (judged_walk (walked c)) ≡ Ok s → Passed c (λ t. t ≡ s)
    long true q = absurd (let z : ◌≡◌ {A = ℕ} 0 1 = cc in omega arith)
    long false q = ends (walked c) refl q

-- what is known of code that passes is what Check tells of it
pub told : (c : List ℕ) (x : Result Summary Refusal) → examined c ≡ x → checked c ≡ checked_as x
told c x e = rw (checked_walk c, e)

-- what holds of its summary holds of the code
pub passed_with : {Known : Summary → Type 0} (c : List ℕ) (s : Summary) → examined c ≡ Ok s → Known s → Passed c Known
passed_with {Known = Known} c s e k =
    let p = passed c s e in record { last = p.last; walk = p.walk; few = p.few; known = rw p.known k }

-- what holds of all summaries like that holds of it too
pub passed_as : {Known Other : Summary → Type 0} {c : List ℕ} → ((s : Summary) → Known s → Other s) → Passed c Known → Passed c Other
passed_as f p = record { last = p.last; walk = p.walk; few = p.few; known = f p.last p.known }

-- what was met up to a position is no more than in all
pub record SoFar (s t : Summary) : Type 0 where
  pub tokens : s.tokens ≤ t.tokens
  pub oracles : s.oracles ≤ t.oracles
  pub rest : t.oracles + s.tokens ≤ s.oracles + t.tokens
  pub most : s.most ≤ t.most
  pub lookups : s.lookups ≤ t.lookups

grows : (ns : List Instruction) (at : ℕ) (s t : Summary) → ended (fold summary_step (Walk.going at s) ns) ≡ Ok t
    → SoFar s t
grows [] at s t e = stop (eqb s.conditions 0) e
  where
    stop : (b : Bool) → cond b (Err at) (Ok s) ≡ Ok t → SoFar s t
    stop true e = absurd (let z : ◌≡◌ {A = ℕ} 0 1 = cc in omega arith)
    stop false e = let q : s ≡ t = cc in rw q (record { tokens = omega arith; oracles = omega arith; rest = omega arith; most = omega arith; lookups = omega arith })
grows (n ∷ ns) at s t e =
    let c = command_of n.byte in
    let later = grows ns (at + suc (length n.operands)) (next c s) t in
    go c (passes c n.operands (counts s)) (λ q. before c (later q)) e
  where
    before : (c : Command) → SoFar (next c s) t → SoFar s t
    before c f =
        let g = oracles_grow (command_row c).terminals s.oracles s.oracles (omega arith) in
        record {
          tokens = omega (arith, f.tokens);
          oracles = omega (arith, f.oracles, g.0);
          rest = omega (arith, f.rest, g.2, (modest c).owned);
          most = omega (arith, f.most, (larger_most s.most ((next c s).values + (next c s).indexes)).0);
          lookups = omega (arith, f.lookups);
        }

    go : (c : Command) (b : Bool)
        → (ended (fold summary_step (Walk.going (at + suc (length n.operands)) (next c s)) ns) ≡ Ok t → SoFar s t)
        → ended (fold summary_step (cond b (Walk.going (at + suc (length n.operands)) (next c s)) (Walk.refused at)) ns) ≡ Ok t
        → SoFar s t
    go c true later e = later e
    go c false later e =
        let q : Err at ≡ Ok t = rw (refused-stays counts (λ d m r. next d r) ns at) at e in
        absurd (let z : ◌≡◌ {A = ℕ} 0 1 = cc in omega arith)

-- the command at a position passes
pub record Onward (c : List ℕ) (at : ℕ) (s t : Summary) : Type 0 where
  pub operands : at + 1 + (command_row (command_at c at)).width ≤ length c
  pub met : need_met (command_row (command_at c at)) s.values s.indexes ≡ true
  pub walk : walk_from c (after c at) (next (command_at c at) s) ≡ Ok t

module _ (c : List ℕ) (at : ℕ) (s t : Summary) (ends : walk_from c at s ≡ Ok t) where
  abbrev width : ℕ
  width = (command_row (command_at c at)).width

  abbrev need : Bool
  need = need_met (command_row (command_at c at)) s.values s.indexes

  refuted : walk_from c at s ≡ Err at → ⊥
  refuted e = let q : Err at ≡ Ok t = sym e ∙ ends in let z : ◌≡◌ {A = ℕ} 0 1 = cc in omega arith

  -- the code does not end before its comparison
  pub inside : s.conditions ≡ 0 → at < length c
  inside z = go (ltb at (length c)) refl
    where
      go : (b : Bool) → ltb at (length c) ≡ b → at < length c
      go true e = omega (arith, leb-true (suc at) (length c) e)
      go false e =
          absurd (refuted (walk_ends c at s (omega (arith, leb-false (suc at) (length c) e)) ∙ rw z))

  -- so many tokens and oracle terminals were met
  pub so_far : SoFar s t
  so_far = grows (instructions (drop at c)) at s t ends

  pub onward : s.conditions ≡ 0 → Onward c at s t
  onward z = wide (leb width (length c - at - 1)) refl
    where
      i : at < length c
      i = inside z

      meets : width ≤ length c - at - 1 → (b : Bool) → need ≡ b → Onward c at s t
      meets h true e = record { operands = omega (arith, h, i); met = e; walk = sym (walk_takes c at i s z h e) ∙ ends }
      meets h false e = absurd (refuted (walk_fails c at i s z h e))

      wide : (b : Bool) → leb width (length c - at - 1) ≡ b → Onward c at s t
      wide true e = meets (leb-true width (length c - at - 1) e) need refl
      wide false e = absurd (refuted (walk_short c at i s z (omega (arith, leb-false width (length c - at - 1) e))))

-- no more oracle terminals than tokens, so no more than a condition may have tokens
pub few_oracles : {Known : Summary → Type 0} (c : List ℕ) (p : Passed c Known) → p.last.oracles ≤ max_tokens
unfolding walked
few_oracles c p = let f = so_far c 0 start p.last p.walk in omega (arith, f.rest, p.few)

-- each operand that waits has a token, and so has the comparison
waits_in_tokens : (ns : List Instruction) (at : ℕ) (s t : Summary) → s.values + s.indexes ≤ s.most → s.most + s.conditions ≤ s.tokens
    → ended (fold summary_step (Walk.going at s) ns) ≡ Ok t → t.most < t.tokens
waits_in_tokens [] at s t w m e = stop (eqb s.conditions 0) refl e
  where
    stop : (b : Bool) → eqb s.conditions 0 ≡ b → cond b (Err at) (Ok s) ≡ Ok t → t.most < t.tokens
    stop true q e = absurd (let z : ◌≡◌ {A = ℕ} 0 1 = cc in omega arith)
    stop false q e = let k : s ≡ t = cc in rw (← k) (omega (arith, m, eqb-false s.conditions 0 q))
waits_in_tokens (n ∷ ns) at s t w m e =
    let c = command_of n.byte in
    go c (passes c n.operands (counts s)) refl (waits_in_tokens ns (at + suc (length n.operands)) (next c s) t) e
  where
    go : (c : Command) (b : Bool) → passes c n.operands (counts s) ≡ b
        → ((next c s).values + (next c s).indexes ≤ (next c s).most → (next c s).most + (next c s).conditions ≤ (next c s).tokens
        → ended (fold summary_step (Walk.going (at + suc (length n.operands)) (next c s)) ns) ≡ Ok t → t.most < t.tokens)
        → ended (fold summary_step (cond b (Walk.going (at + suc (length n.operands)) (next c s)) (Walk.refused at)) ns) ≡ Ok t
        → t.most < t.tokens
    go c true p later e =
        let size = eqb (length n.operands) (command_row c).width in
        let needed = need_met (command_row c) s.values s.indexes in
        let q = (and_true size needed (and_true (eqb s.conditions 0) (size && needed) p).1).1 in
        let l = larger_most s.most ((next c s).values + (next c s).indexes) in
        let g = given_one (command_row c).makes in
        let one = some_token c (need-known c s.values s.indexes q) in
        let a : ℕ = (given (command_row c).makes).values + (given (command_row c).makes).indexes in
        let top = l.2 (s.most + a) (omega arith) (omega (arith, w)) in
        later l.1 (omega (arith, m, top, g, one)) e
    go c false p later e =
        let q : Err at ≡ Ok t = rw (refused-stays counts (λ d m r. next d r) ns at) at e in
        absurd (let z : ◌≡◌ {A = ℕ} 0 1 = cc in omega arith)

pub few_wait : {Known : Summary → Type 0} (c : List ℕ) (p : Passed c Known) → p.last.most < max_tokens
unfolding walked
few_wait c p = omega (arith, waits_in_tokens (instructions c) 0 start p.last (omega arith) (omega arith) p.walk, p.few)
