-- The pass that marks the commands: what its loop keeps, and what it comes to.
use Rattle.std.proofs.Common.{Ok}
use Prim.Native.Nat.{ℕ, ◌+◌, ◌≤◌, ◌<◌}
use mathlib.Core.Bool.{Bool, true, false}
use mathlib.Core.Path.{◌≡◌, refl, sym, ap, ◌∙◌, subst}
use mathlib.Core.List.{List, [], ◌∷◌, ◌++◌}
use native.Mathlib.Numerals.{add-one}
use native.Mathlib.Omega.{arith}
use lib.ListN.{get_or, length, take, drop, length-drop, length-set, set, take-append-drop}
use lib.Seq.{length-take-le, take-suc-set}
use Rattle.slices.specs.Bytes.{All}
use Rattle.slices.proofs.Bytes.{all_drop}
use Rattle.slices.proofs.Stack.{length_stack}
use Rattle.semantics.specs.declared.Command.{Command}
use Rattle.semantics.specs.Code.{Made, command_row, need_met, max_tokens}
use Rattle.semantics.specs.Parse.{after, command_at, fold, instructions, operands_at}
use Rattle.semantics.specs.Token.{narrow}
use Rattle.summary.proofs.Counts.{given_one}
use Rattle.semantics.proofs.Machine.{fold-ends, fold_takes}
use Rattle.summary.specs.declared.Summary.{Summary}
use Rattle.summary.specs.Step.{given}
use Rattle.condition.specs.Walk.{Passed, next, start}
use Rattle.condition.proofs.Position.{Position, passes_on, position_below, position_next, position_start}
use Rattle.conversions.specs.Marks.{Fits, Found, Marking, Ready, ending, mark_step, marking_in, marks_of, narrow_code, narrow_step, settled, stack_in}
use Rattle.conversions.proofs.Narrow.{narrow-stays}

-- ---- one command

-- as many indexes wait as the walk of Check counts, one more at the most
ending-count : (m : Made) (k : ℕ) (w : List ℕ) → length (ending m k w) ≡ length w + (given m).indexes
ending-count Made.nothing k w = omega arith
ending-count Made.index k w = omega arith
ending-count Made.value k w = omega arith
ending-count Made.condition k w = omega arith

settled-count : (c : Command) (h : Summary) (s : Marking) → length s.waiting ≡ h.indexes
    → (length (settled s c).waiting ≡ (next c h).indexes) × ((next c h).indexes ≤ h.indexes + 1)
settled-count c h s e =
    let r = command_row c in
    let n = ending-count r.makes (length s.marks) (drop r.indexes s.waiting) in
    (omega (arith, n, length-drop r.indexes s.waiting, e), omega (arith, given_one r.makes))

-- the commands that ended them came before
later : (n : ℕ) (l : List ℕ) → All (λ k. k < n) l → All (λ k. k < n + 1) l
later n [] h = tt
later n (k ∷ l) h = (omega (arith, h.0), later n l h.1)

settled_earlier : (c : Command) (s : Marking) → All (λ k. k < length s.marks) s.waiting → All (λ k. k < length s.marks + 1) (settled s c).waiting
settled_earlier c s h =
    let r = command_row c in
    go r.makes (drop r.indexes s.waiting) (all_drop (λ k. k < length s.marks + 1) r.indexes s.waiting (later (length s.marks) s.waiting h))
  where
    go : (m : Made) (w : List ℕ) → All (λ k. k < length s.marks + 1) w → All (λ k. k < length s.marks + 1) (ending m (length s.marks) w)
    go Made.nothing w a = a
    go Made.index w a = (omega arith, a)
    go Made.value w a = a
    go Made.condition w a = a

-- ---- the loop

-- `room` and `size` are the lengths of the two arrays
pub record Loop (code : List ℕ) (lookups room size : ℕ) (waiting : List ℕ) (marks : List Bool) (at count indexes : ℕ) : Type 0 where
  pub all : Passed code (Fits lookups room size)
  pub here : Summary
  pub position : Position code all.last here at count
  pub waiting_long : length waiting ≡ room
  pub marks_long : length marks ≡ size
  pub indexes_are : here.indexes ≡ indexes
  pub height : indexes ≤ count
  pub earlier : All (λ k. k < count) (stack_in waiting indexes)
  pub narrow : fold narrow_step true (instructions (drop at code)) ≡ narrow_code code
  pub runs : (fold mark_step (marking_in waiting indexes marks count) (instructions (drop at code))).marks ≡ marks_of code
  pub passed : count ≤ length marks

pub loop_start : (code : List ℕ) (lookups : ℕ) (waiting : List ℕ) (marks : List Bool) → Passed code (Fits lookups (length waiting) (length marks))
    → Loop code lookups (length waiting) (length marks) waiting marks 0 0 0
unfolding narrow_code marks_of
loop_start code lookups waiting marks p =
    record {
      all = p;
      here = start;
      position = position_start code p.last p.walk;
      waiting_long = refl;
      marks_long = refl;
      indexes_are = refl;
      height = omega arith;
      earlier = tt;
      narrow = refl;
      runs = refl;
      passed = omega arith;
    }

module _ (code : List ℕ) (lookups room size : ℕ) (waiting : List ℕ) (marks : List Bool) (at count indexes : ℕ) (l : Loop code lookups room size waiting marks at count indexes) where
  pub loop_found : length code ≤ at → Found code marks (Ok tt)
  loop_found h =
      let t : take count marks ≡ marks_of code = sym (ap (λ (s : Marking). s.marks) (fold-ends mark_step code at h (marking_in waiting indexes marks count))) ∙ l.runs in
      (sym l.narrow ∙ fold-ends narrow_step code at h true, rw (← t, length-take-le count marks l.passed) (sym (take-append-drop count marks)))

  module _ (inside : at < length code) where
    abbrev command : Command
    command = command_at code at

    pub loop_operands : at + 1 + (command_row command).width ≤ length code
    loop_operands = (passes_on code l.all.last l.here at count l.position inside).operands

    pub loop_below : (count < length marks) × (count < max_tokens)
    loop_below =
        let b = position_below code l.all.last l.here at count l.position inside in (omega (arith, b, l.all.known.2, l.marks_long), omega (arith, b, l.all.few))

    need : need_met (command_row command) l.here.values indexes ≡ true
    need = rw l.indexes_are at (passes_on code l.all.last l.here at count l.position inside).met

    pub loop_ready : Ready command count indexes waiting marks
    loop_ready =
        record {
          values = l.here.values;
          met = need;
          count_fits = loop_below.0;
          few = loop_below.1;
          indexes_fit = omega (arith, position_below code l.all.last l.here at count l.position inside, l.height, l.all.known.1, l.waiting_long);
          earlier = l.earlier;
        }

    -- 6 turns the command down
    pub loop_refused : narrow ((command_row command).tokens (operands_at code at)) ≡ false → narrow_code code ≡ false
    loop_refused e =
        let w = sym l.narrow ∙ fold_takes narrow_step code at inside true ∙ ap (λ (b : Bool). fold narrow_step b (instructions (drop (after code at) code))) e in
        w ∙ narrow-stays (instructions (drop (after code at) code))

    -- one turn, by what `step` promises
    pub loop_next : narrow ((command_row command).tokens (operands_at code at)) ≡ true → (waiting' : List ℕ) (marks' : List Bool) (indexes' : ℕ)
        → length waiting' ≡ length waiting → length marks' ≡ length marks
        → marking_in waiting' indexes' marks' count ≡ settled (marking_in waiting indexes marks count) command
        → Loop code lookups room size waiting' (set marks' count false) (after code at) (count + 1) indexes'
    loop_next e waiting' marks' indexes' p q s =
        let old = marking_in waiting indexes marks count in
        let n : length (take count marks) ≡ count = length-take-le count marks l.passed in
        let w : stack_in waiting' indexes' ≡ (settled old command).waiting = ap (λ (m : Marking). m.waiting) s in
        let k = settled-count command l.here old (length_stack (λ k. get_or waiting k 0) indexes ∙ sym l.indexes_are) in
        let i : indexes' ≡ (next command l.here).indexes = sym (length_stack (λ k. get_or waiting' k 0) indexes') ∙ ap length w ∙ k.0 in
        let m : take (count + 1) (set marks' count false) ≡ (settled old command).marks ++ false ∷ [] =
        rw (add-one, take-suc-set marks' count false (omega (arith, q, loop_below.0)), ap (λ (m : Marking). m.marks) s) in
        record {
          all = l.all;
          here = next command l.here;
          position = position_next code l.all.last l.here at count l.position inside;
          waiting_long = p ∙ l.waiting_long;
          marks_long = length-set marks' count false ∙ q ∙ l.marks_long;
          indexes_are = sym i;
          height = omega (arith, i, k.1, l.height, l.indexes_are);
          earlier = rw w (subst (λ (k : ℕ). All (λ i. i < k + 1) (settled old command).waiting) n (settled_earlier command old (rw n l.earlier)));
          narrow =
              ap (λ (b : Bool). fold narrow_step b (instructions (drop (after code at) code))) (sym e) ∙ sym (fold_takes narrow_step code at inside true)
              ∙ l.narrow;
          runs =
              rw (w, m) (ap (λ (g : Marking). g.marks) (sym (fold_takes mark_step code at inside old)) ∙ l.runs);
          passed = simp length-set (omega (arith, q, loop_below.0));
        }
