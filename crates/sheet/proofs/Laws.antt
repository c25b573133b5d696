-- What holds of every sheet.
use Rattle.std.proofs.Common.{Result, Ok, Err}
use Prim.Native.Nat.{ℕ, zero, suc, ◌+◌, ◌-◌, ◌≤◌, ◌<◌}
use mathlib.Core.Bool.{Bool, true, false}
use mathlib.Core.Path.{◌≡◌, refl, sym, ap, ◌∙◌}
use mathlib.Core.List.{List, [], ◌∷◌, ◌++◌}
use native.Mathlib.Omega.{arith}
use borrow.Author.Tests.{ltb-false, ltb-true}
use lib.Dec.{ltb}
use lib.ListN.{drop, length, length-append, length-drop, take}
use lib.Seq.{take_at}
use Rattle.slices.specs.Bytes.{All, Bytes, over}
use Rattle.semantics.specs.declared.Refusal.{Refusal}
use Rattle.semantics.specs.Check.{answered, checked}
use Rattle.semantics.specs.Code.{max_code}
use Rattle.semantics.specs.Parse.{Instruction, after, command_at, instructions}
use Rattle.semantics.proofs.Passing.{passed_short, too_long}
use Rattle.summary.specs.declared.Summary.{Summary}
use Rattle.condition.specs.Walk.{examined, next, start}
use Rattle.condition.proofs.Checks.{refused_early}
use Rattle.condition.proofs.Onward.{passed, told}
use Rattle.condition.proofs.Position.{Position, position_next, position_start}
use Rattle.sheet.specs.Sheet.{command_lines, line_feed, lines, lines_of, refusal_line, sheet}
use Rattle.sheet.proofs.Lines.{lines_next, lines_none, lines_from, position_whole, sheet-refused, whole_wide}
use Rattle.sheet.proofs.Wide.{refusal-wide}

abbrev Wide : List (List ℕ) → Type 0
Wide = All (λ l. length l ≡ 29)

-- from a position on, with at most k bytes to come
wide_from : (c : List ℕ) → Bytes c → length c ≤ max_code → (last here : Summary) (k at count : ℕ) → length c ≤ at + k
    → Position c last here at count → Wide (lines_from c at)
wide_from c b short last here zero at count h p = rw (lines_none c at (omega arith)) tt
wide_from c b short last here (suc k) at count h p =
    go (ltb at (length c)) refl λ i.
    wide_from c b short last (next (command_at c at) here) k (after c at) (count + 1) (omega arith) (position_next c last here at count p i)
  where
    go : (t : Bool) → ltb at (length c) ≡ t → (at < length c → Wide (lines_from c (after c at))) → Wide (lines_from c at)
    go true e later =
        let i = ltb-true at (length c) e in
        let w = position_whole c last here at count p short i in
        rw (lines_next c at w.operands) (whole_wide c at b w, later i)
    go false e later = rw (lines_none c at (ltb-false at (length c) e)) tt

-- "one line of 29 characters"
pub lines-wide : (c : List ℕ) → Bytes c → Wide (lines c)
unfolding lines
lines-wide c b = go (examined c) refl
  where
    go : (x : Result Summary Refusal) → examined c ≡ x → Wide (lines_of (checked c) c)
    go (Err r) e = let q = told c (Err r) e in rw q (refusal-wide r (refused_early c r q), tt)
    go (Ok s) e =
        let q = told c (Ok s) e in
        let p = passed c s e in
        rw q (wide_from c b (passed_short c s.tokens s.oracles q) p.last start (length c) 0 0 (omega arith) (position_start c p.last p.walk))

-- "per command"
pub lines-count : (c : List ℕ) (t o : ℕ) → checked c ≡ Ok (record { tokens = t; oracles = o }) → length (lines c) ≡ length (instructions c)
unfolding lines
lines-count c t o e = rw e (go 0 (instructions c))
  where
    go : (at : ℕ) (ns : List Instruction) → length (command_lines at ns) ≡ length ns
    go at [] = refl
    go at (n ∷ ns) = ap suc (go (at + 1 + length n.operands) ns)

-- what is longer than code may be has one sheet, however it goes on
long_sheet : (c : List ℕ) → max_code < length c → sheet c ≡ refusal_line Refusal.CodeTooLong ++ line_feed ∷ []
unfolding checked
long_sheet c h = sheet-refused c Refusal.CodeTooLong (ap answered (too_long c h))

pub same_sheet : (c more : List ℕ) → max_code < length c → sheet (c ++ more) ≡ sheet c
same_sheet c more h = long_sheet (c ++ more) (rw length-append (omega arith)) ∙ sym (long_sheet c h)

-- the first n bytes of a buffer are the sheet that was written over its front
pub record Written (c now : List ℕ) (n : ℕ) : Type 0 where
  pub inside : n ≤ length now
  pub is : take n now ≡ sheet c

pub written : (c old now : List ℕ) (n : ℕ) → n ≡ length (sheet c) → now ≡ over (sheet c) old → Written c now n
written c old now n e q =
    let l : length now ≡ length (sheet c) + (length old - length (sheet c)) = rw q (simp (length-append, length-drop) refl) in
    record {
      inside = omega arith;
      is = rw q (take_at (sheet c) (drop (length (sheet c)) old) n (sym e));
    }
