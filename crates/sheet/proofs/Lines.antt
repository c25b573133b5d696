-- The lines of code that Check lets pass, one after another.
use Rattle.std.proofs.Common.{Ok, Err}
use Prim.Native.Nat.{ℕ, suc, ◌+◌, ◌-◌, ◌*◌, ◌≤◌, ◌<◌}
use mathlib.Core.Path.{◌≡◌, refl, sym, ap, ◌∙◌}
use mathlib.Core.List.{List, [], ◌∷◌, ◌++◌, append_assoc, append-nil}
use native.Mathlib.Omega.{arith}
use borrow.Rule.Slice.PartMut.{put_mid}
use lib.ListN.{length, drop, drop_of_length-le, get_or, length-append, length-drop, length-take}
use Rattle.slices.specs.Bytes.{Bytes, over}
use Rattle.slices.proofs.Bytes.{all_drop, all_take}
use Rattle.slices.proofs.Front.{Front, front-lent, front_none}
use Rattle.semantics.specs.declared.Refusal.{Refusal}
use Rattle.semantics.specs.Check.{checked}
use Rattle.semantics.specs.Code.{max_code, max_tokens}
use Rattle.semantics.specs.Parse.{after, command_at, instructions, operands_at, width}
use Rattle.semantics.proofs.Machine.{instructions_at}
use Rattle.summary.specs.declared.Summary.{Summary}
use Rattle.condition.specs.Walk.{Passed, next, start}
use Rattle.condition.proofs.Checks.{refused_early}
use Rattle.condition.proofs.Position.{Position, passes_on, position_below, position_known, position_next, position_start}
use Rattle.sheet.specs.Sheet.{command_line, command_lines, line_feed, lines, operand, printed, refusal_line, sheet}
use Rattle.sheet.specs.Fields.{Whole, all_lines, instruction_at, line_at}
use Rattle.sheet.proofs.Wide.{line_wide, operand_few, refusal-wide}

-- the lines from a position on
abbrev pub lines_from : List ℕ → ℕ → List (List ℕ)
lines_from c at = command_lines at (instructions (drop at c))

operands_whole : (c : List ℕ) (at : ℕ) → after c at ≤ length c → length (operands_at c at) ≡ width (get_or c at 0)
operands_whole c at h = simp (length-take, length-drop) (omega arith)

operands-bytes : (c : List ℕ) (at : ℕ) → Bytes c → Bytes (operands_at c at)
operands-bytes c at b = all_take (λ x. x < 256) (width (get_or c at 0)) (drop (suc at) c) (all_drop (λ x. x < 256) (suc at) c b)

-- one more, and none
pub lines_next : (c : List ℕ) (at : ℕ) → after c at ≤ length c → lines_from c at ≡ command_line at (instruction_at c at) ∷ lines_from c (after c at)
lines_next c at h = rw (instructions_at c at (omega arith), operands_whole c at h)

pub lines_none : (c : List ℕ) (at : ℕ) → length c ≤ at → lines_from c at ≡ []
unfolding instructions
lines_none c at h = rw (drop_of_length-le c {i = at} h)

-- the line of a command that is whole
pub whole_wide : (c : List ℕ) (at : ℕ) → Bytes c → Whole c at → length (command_line at (instruction_at c at)) ≡ 29
whole_wide c at b w = line_wide at (instruction_at c at) w.near w.known (operands-bytes c at b) (operands_whole c at w.operands)

-- and its operand
pub whole_operand : (c : List ℕ) (at : ℕ) → Bytes c → Whole c at → length (operand (command_at c at) (operands_at c at)) ≤ 20
whole_operand c at b w = operand_few (command_at c at) (operands_at c at) (operands-bytes c at b) (operands_whole c at w.operands)

-- commands of code that passes are whole
module _ (c : List ℕ) (last here : Summary) (at count : ℕ) (p : Position c last here at count) (short : length c ≤ max_code) where
  pub position_whole : at < length c → Whole c at
  position_whole h =
      record {
        known = position_known c last here at count p h;
        operands = (passes_on c last here at count p h).operands;
        near = omega (arith, h, short);
      }

-- ---- a pass over code

-- so many lines are written, and those to come are the rest
pub record Progress (c old now : List ℕ) (at n : ℕ) : Type 0 where
  pub last : Summary
  pub here : Summary
  pub count : ℕ
  pub written : List ℕ
  pub short : length c ≤ max_code
  pub few : last.tokens ≤ max_tokens
  pub position : Position c last here at count
  pub counted : n ≡ 30 * count
  pub front : Front now old written n
  pub rest : written ++ printed (lines_from c at) ≡ all_lines c

pub none_yet : {Known : Summary → Type 0} (c old : List ℕ) → Passed c Known → length c ≤ max_code → Progress c old old 0 0
none_yet c old p short =
    record {
      last = p.last;
      here = start;
      count = 0;
      written = [];
      short = short;
      few = p.few;
      position = position_start c p.last p.walk;
      counted = refl;
      front = front_none old;
      rest = refl;
    }

module _ (c old now : List ℕ) (at n : ℕ) (p : Progress c old now at n) where
  module _ (inside : at < length c) where
    -- a line more has room
    pub fewer : n + 30 ≤ 30 * max_tokens
    fewer = omega (arith, p.counted, p.few, position_below c p.last p.here at p.count p.position inside)

    pub progress_whole : Whole c at
    progress_whole = position_whole c p.last p.here at p.count p.position p.short inside

    line_long : Bytes c → length (line_at c at) ≡ 30
    line_long b = length-append (command_line at (instruction_at c at)) (line_feed ∷ []) ∙ rw (whole_wide c at b progress_whole) refl

    pub one_more : Bytes c → (line : List ℕ) → line ≡ line_at c at → Progress c old (put_mid n (n + 30 - n) now line) (after c at) (n + 30)
    one_more b line e =
        let m : n + 30 - n ≡ 30 = omega arith in
        record {
          last = p.last;
          here = next (command_at c at) p.here;
          count = p.count + 1;
          written = p.written ++ line_at c at;
          short = p.short;
          few = p.few;
          position = position_next c p.last p.here at p.count p.position inside;
          counted = omega (arith, p.counted);
          front = rw m (front-lent 30 p.front e (line_long b));
          rest =
              append_assoc p.written (line_at c at) (printed (lines_from c (after c at)))
              ∙ ap (λ (ls : List (List ℕ)). p.written ++ printed ls) (sym (lines_next c at progress_whole.operands)) ∙ p.rest;
        }

  all_written : length c ≤ at → p.written ≡ all_lines c
  all_written h = sym (append-nil p.written) ∙ ap (λ (ls : List (List ℕ)). p.written ++ printed ls) (sym (lines_none c at h)) ∙ p.rest

  pub all_there : length c ≤ at → (n ≡ length (all_lines c)) × (now ≡ over (all_lines c) old)
  all_there h = (sym p.front.long ∙ ap length (all_written h), p.front.is ∙ ap (λ (l : List ℕ). over l old) (all_written h))

-- ---- the sheet

pub sheet-passed : (c : List ℕ) (t o : ℕ) → checked c ≡ Ok (record { tokens = t; oracles = o }) → sheet c ≡ all_lines c
unfolding sheet lines
sheet-passed c t o e = rw e

pub sheet-refused : (c : List ℕ) (r : Refusal) → checked c ≡ Err r → sheet c ≡ refusal_line r ++ line_feed ∷ []
unfolding sheet lines
sheet-refused c r e = rw e (append-nil (refusal_line r ++ line_feed ∷ []))

pub refusal_long : (c : List ℕ) (r : Refusal) → checked c ≡ Err r → length (refusal_line r ++ line_feed ∷ []) ≡ 30
refusal_long c r e = length-append (refusal_line r) (line_feed ∷ []) ∙ rw (refusal-wide r (refused_early c r e)) refl
