-- A number of 32 bits has far fewer than 29 digits.
use borrow.Author.Rules.{rules}
use Prim.Native.Nat.{◌^◌, ◌<◌, ◌≤◌}
use mathlib.Core.Path.{ap, ◌∙◌}
use mathlib.Core.List.{◌∷◌, [], ◌++◌}
use native.Mathlib.Omega.{arith}
use lib.ListN.{length, length-take}
use Rattle.slices.specs.Bytes.{over}
use Rattle.slices.proofs.Front.{front_none, front-set}
use Rattle.decimals.specs.Decimal.{decimal}
use Rattle.decimals.proofs.Digits.{decimal_few}
use Rattle.semantics.specs.declared.Numbered.{Numbered}
use Rattle.sheet.specs.Sheet.{line_feed, refusal_line, right_aligned}
use Rattle.sheet.proofs.Columns.{front_column}
use Rattle.sheet.proofs.write_refusal.Statement.{statement}
use Rattle.sheet.proofs.write_refusal.Tie as tie

few : (t : tie.After-number_of-number) → length (decimal t.number_of-number.result.number) ≤ 29
few t = let h : t.number_of-number.result.number < 10 ^ 29 = omega (arith, t.number_of-number.type_inv) in decimal_few 28 t.number_of-number.result.number h

returns : tie.Need-returns
unfolding refusal_line
returns c =
    let t = c.before.before.before.before in
    let s = t.before.before in
    let xs = s.args.out.now in
    let l = s.requires in
    let f = front-set line_feed (front_column 29 (decimal t.number_of-number.result.number) (front_none xs) (omega arith) (few t) c.right_align.ensures) (omega arith) in
    f.is ∙ ap (λ (n : Numbered). over (right_aligned 29 (decimal n.number) ++ line_feed ∷ []) xs) t.number_of-number.ensures

pub write_refusal_spec : {M : Type 1} → statement M
write_refusal_spec =
    tie.close
    (tie.spec
    (λ c κs. search rules)
    (λ c. search rules)
    (λ c. search rules)
    (λ c. search rules)
    (λ c. search rules)
    (λ c κs. simp length-take (omega (arith, few c.before, c.requires)))
    (λ c. search rules)
    (λ c. search rules)
    returns)
