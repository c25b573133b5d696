-- Refusal 6, command by command: no command but an index constant has a Num that is not narrow.
use mathlib.Core.Bool.{Bool, true, false, ◌&&◌}
use mathlib.Core.Path.{◌≡◌, refl}
use mathlib.Core.List.{List, [], ◌∷◌}
use Rattle.semantics.specs.declared.AmountList.{AmountList}
use Rattle.semantics.specs.declared.BinOp.{BinOp}
use Rattle.semantics.specs.declared.CmpOp.{CmpOp}
use Rattle.semantics.specs.declared.UnOp.{UnOp}
use Rattle.semantics.specs.Operations.{bin_row, cmp_row, list_row, un_row}
use Rattle.semantics.specs.Parse.{Instruction, fold}
use Rattle.semantics.specs.Token.{narrow}
use Rattle.conversions.specs.Marks.{narrow_step}

pub and_end : (b : Bool) → (b && true) ≡ b
and_end true = refl
and_end false = refl

pub list_narrow : (l : AmountList) → narrow (list_row l).form ≡ true
list_narrow l = elim l as (λ l. narrow (list_row l).form ≡ true) [ AmountList.Input ↦ refl | AmountList.Output ↦ refl | AmountList.InputIssue ↦ refl | AmountList.InputReIssue ↦ refl ]

pub binary_narrow : (o : BinOp) → narrow (bin_row o).form ≡ true
binary_narrow o =
    elim o as (λ o. narrow (bin_row o).form ≡ true) [
      | BinOp.Add ↦ refl
      | BinOp.Sub ↦ refl
      | BinOp.Mul ↦ refl
      | BinOp.Div ↦ refl
      | BinOp.Mod ↦ refl
      | BinOp.BitAnd ↦ refl
      | BinOp.BitOr ↦ refl
      | BinOp.Xor ↦ refl
    ]

pub unary_narrow : (o : UnOp) → narrow (un_row o).form ≡ true
unary_narrow o = elim o as (λ o. narrow (un_row o).form ≡ true) [ UnOp.Invert ↦ refl | UnOp.Negate ↦ refl ]

pub compare_narrow : (o : CmpOp) → narrow (cmp_row o).form ≡ true
compare_narrow o = elim o as (λ o. narrow (cmp_row o).form ≡ true) [ CmpOp.Eq ↦ refl | CmpOp.Lt ↦ refl | CmpOp.Leq ↦ refl | CmpOp.Gt ↦ refl | CmpOp.Geq ↦ refl ]

-- a constant that 6 turns down is not made good
pub narrow-stays : (ns : List Instruction) → fold narrow_step false ns ≡ false
narrow-stays [] = refl
narrow-stays (n ∷ ns) = narrow-stays ns
