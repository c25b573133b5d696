-- The columns are written one after another (`Front`).
use borrow.Author.Rules.{rules}
use Prim.Native.Nat.{ℕ}
use mathlib.Core.Path.{◌≡◌, sym, ◌∙◌}
use mathlib.Core.List.{List, [], ◌∷◌, ◌++◌}
use native.Mathlib.Omega.{arith}
use borrow.Rule.Slice.PartMut.{put_mid}
use lib.ListN.{length, length-drop, length-set, length-take, set}
use Rattle.slices.proofs.Front.{Front, front_length, front_none, front-set, front_whole}
use Rattle.decimals.specs.Decimal.{decimal}
use Rattle.sheet.specs.Sheet.{blank, columns, line_feed, right_aligned}
use Rattle.sheet.specs.Fields.{text_of}
use Rattle.sheet.proofs.Columns.{front_column}
use Rattle.sheet.proofs.write_columns.Statement.{statement}
use Rattle.sheet.proofs.write_columns.Tie as tie

module _ (s : tie.Start) where
  abbrev xs : List ℕ
  xs = s.args.line.now

  abbrev offset : List ℕ
  offset = right_aligned 5 (decimal s.args.offset) ++ blank ∷ []

  abbrev command : List ℕ
  command = offset ++ right_aligned 2 (decimal s.args.command) ++ blank ∷ []

  long : length xs ≡ 30
  long = s.requires.0

-- after the first column and its blank
module _ (t : tie.After-right_align) where
  abbrev s₁ : tie.Start
  s₁ = t.before.before.before

  abbrev first : List ℕ
  first = set (put_mid 0 5 (xs s₁) t.right_align.new.column) 5 blank

  one : Front first (xs s₁) (offset s₁) 6
  one =
      let l = long s₁ in
      front-set blank (front_column 5 (decimal s₁.args.offset) (front_none (xs s₁)) (omega arith) s₁.requires.1 t.right_align.ensures) (omega arith)

  one-long : length first ≡ 30
  one-long = let l = long s₁ in front_length one (omega arith) ∙ l

-- after the second
module _ (u : tie.After-right_align-2) where
  abbrev t₂ : tie.After-right_align
  t₂ = u.before.before.before.before

  abbrev s₂ : tie.Start
  s₂ = s₁ t₂

  two-column : Front (put_mid 6 2 (first t₂) u.right_align-2.new.column) (xs s₂) (offset s₂ ++ right_aligned 2 (decimal s₂.args.command)) 8
  two-column = let l = long s₂ in front_column 2 (decimal s₂.args.command) (one t₂) (omega arith) s₂.requires.2 u.right_align-2.ensures

  abbrev second : List ℕ
  second = set (put_mid 6 2 (first t₂) u.right_align-2.new.column) 8 blank

  two : Front second (xs s₂) (command s₂) 9
  two = let l = long s₂ in front-set blank two-column (omega arith)

  two-long : length second ≡ 30
  two-long = let l = long s₂ in front_length two (omega arith) ∙ l

-- after the third
module _ (v : tie.After-right_align-3) where
  abbrev u₃ : tie.After-right_align-2
  u₃ = v.before.before.before.before

  abbrev s₃ : tie.Start
  s₃ = s₂ u₃

  three : Front (put_mid 9 20 (second u₃) v.right_align-3.new.column) (xs s₃) (command s₃ ++ right_aligned 20 (text_of s₃.args.operand)) 29
  three = let l = long s₃ in front_column 20 (text_of s₃.args.operand) (two u₃) (omega arith) s₃.requires.3 v.right_align-3.ensures

  three-long : length (put_mid 9 20 (second u₃) v.right_align-3.new.column) ≡ 30
  three-long = let l = long s₃ in front_length three (omega arith) ∙ l

returns : tie.Need-returns
unfolding columns
returns c = let v = c.before.before in let l = long (s₃ v) in front_whole (front-set line_feed (three v) (omega arith)) (omega arith)

pub write_columns_spec : {M : Type 1} → statement M
write_columns_spec =
    tie.close
    (tie.spec
    (λ c. search rules)
    (λ c. search rules)
    (λ c. search rules)
    (λ c κs. search rules)
    (λ c. search rules)
    (λ c. search rules)
    (λ c. search rules)
    (λ c. omega (arith, one-long c.before.before))
    (λ c κs. simp (length-take, length-drop) (omega (arith, (s₁ c.before.before.before).requires.2, one-long c.before.before.before)))
    (λ c. let l = long (s₂ c.before.before) in omega (arith, front_length (two-column c.before.before) (omega arith)))
    (λ c. search rules)
    (λ c. search rules)
    (λ c. omega (arith, two-long c.before.before))
    (λ c κs. simp (length-take, length-drop) (omega (arith, (s₂ c.before.before.before).requires.3, two-long c.before.before.before)))
    (λ c. omega (arith, three-long c.before.before))
    (λ c. rw length-set (three-long c.before.before ∙ sym (long (s₃ c.before.before))))
    returns)
