-- The definitions' readers, one step, by the row that the tokens end with and by what is read before: `index-step`, `value-step`, `condition-step`.
use Prim.Native.Nat.{ℕ}
use mathlib.Core.Bool.{Bool, true, false}
use mathlib.Core.Path.{◌≡◌, refl, sym, ap, ◌∙◌}
use mathlib.Core.List.{List, ◌++◌, reverse}
use native.Mathlib.Omega.{arith}
use lib.ListN.{length, drop}
use lib.Seq.{drop-append_seam}
use Rattle.slices.specs.Bytes.{All}
use Rattle.semantics.specs.Operations.{Token}
use Rattle.semantics.specs.declared.CmpOp.{CmpOp}
use Rattle.semantics.specs.declared.IdxOp.{IdxOp}
use Rattle.semantics.specs.Trees.{Arith, Expr, IdxExpr}
use Rattle.semantics.specs.Token.{expr_form, idx_form}
use Rattle.semantics.specs.FromTokens.{Found, Head, IdxHead, and_then, expr_from_tokens, found, from_tokens, idx_between, idx_from_tokens, idx_operands, lookup_expr, nothing, operands}
use Rattle.semantics.proofs.Find.{Reader, Reads}
use Rattle.semantics.proofs.FromTokens.{expr_reader, expr_step, idx_reader, idx_step}
use Rattle.productions.specs.Before.{before}
use Rattle.productions.specs.Ending.{Production, last_row, production_of}
use Rattle.productions.proofs.Shapes.{IndexShape, ValueShape, index_shape, value_shape}
use Rattle.readers.specs.Readings.{reading_of}
use Rattle.readers.specs.declared.Reading.{Reading}
use Rattle.productions.proofs.Tokens.{Recorded, tail_before}
use Rattle.productions.proofs.Endings.{comparison-seen, head-seen, idx_head-seen, is_comparison, pick_comparison, pick_index, pick_value, picked, seen}

-- a reading goes on before what was read, or ends there and then
abbrev pub go_on : {A : Type 0} → Found A → (List Token → Reading) → Reading
go_on (found a r) f = f r
go_on nothing f = Reading.Nothing

abbrev pub stop : List Token → Reading
stop ts = Reading.Read (length ts)

pub reading_on : {A : Type 0} (g : Found A) → reading_of g ≡ go_on g stop
reading_on (found a r) = refl
reading_on nothing = refl

-- by what stands before a production's own tokens, with what is read before that
abbrev pub index_by : IndexShape → List Token → (List Token → Reading) → Reading
index_by IndexShape.Terminal r f = f r
index_by IndexShape.Plain r f = go_on (idx_from_tokens r) λ r₁. go_on (idx_from_tokens r₁) f
index_by IndexShape.Converted r f = go_on (idx_from_tokens r) λ r₁. go_on (idx_between IdxOp.Mul r₁) λ r₂. go_on (idx_from_tokens r₂) f
index_by IndexShape.NoIndex r f = Reading.Nothing

abbrev pub value_by : ValueShape → List Token → (List Token → Reading) → Reading
value_by ValueShape.Terminal r f = f r
value_by ValueShape.Lookup r f = go_on (idx_from_tokens r) f
value_by ValueShape.Unary r f = go_on (expr_from_tokens r) f
value_by ValueShape.Binary r f = go_on (expr_from_tokens r) λ r₁. go_on (expr_from_tokens r₁) f
value_by ValueShape.NoValue r f = Reading.Nothing

-- one reading after another
then_on : {A B : Type 0} (g : Found A) (h : A → List Token → Found B) (f f' : List Token → Reading) → ((a : A) (r : List Token) → go_on (h a r) f ≡ f' r)
    → go_on (and_then g h) f ≡ go_on g f'
then_on (found a r) h f f' e = e a r
then_on nothing h f f' e = refl

last_on : {A B : Type 0} (g : Found A) (c : A → B) (f : List Token → Reading) → go_on (and_then g (λ a r. found (c a) r)) f ≡ go_on g f
last_on (found a r) c f = refl
last_on nothing c f = refl

-- index expressions
index_shaped : (p : Production) (r : List Token) (f : List Token → Reading) → go_on (idx_operands idx_from_tokens (picked (pick_index p) r)) f ≡ index_by (index_shape p) r f
index_shaped (Production.value h) r f = refl
index_shaped (Production.index (IdxHead.const n)) r f = refl
index_shaped (Production.index IdxHead.curr) r f = refl
index_shaped (Production.index (IdxHead.oper IdxOp.Add)) r f =
    then_on (idx_from_tokens r) _ f (λ r₁. go_on (idx_from_tokens r₁) f) λ y r₁. last_on (idx_from_tokens r₁) (λ x. IdxExpr.Op IdxOp.Add x y) f
index_shaped (Production.index (IdxHead.oper IdxOp.Sub)) r f =
    then_on (idx_from_tokens r) _ f (λ r₁. go_on (idx_from_tokens r₁) f) λ y r₁. last_on (idx_from_tokens r₁) (λ x. IdxExpr.Op IdxOp.Sub x y) f
index_shaped (Production.index (IdxHead.oper IdxOp.Mul)) r f =
    then_on (idx_from_tokens r) _ f (λ r₁. go_on (idx_between IdxOp.Mul r₁) λ r₂. go_on (idx_from_tokens r₂) f) λ y r₁.
    then_on (idx_between IdxOp.Mul r₁) _ f (λ r₂. go_on (idx_from_tokens r₂) f) λ _ r₂. last_on (idx_from_tokens r₂) (λ x. IdxExpr.Op IdxOp.Mul x y) f
index_shaped (Production.index (IdxHead.oper IdxOp.Div)) r f =
    then_on (idx_from_tokens r) _ f (λ r₁. go_on (idx_between IdxOp.Div r₁) λ r₂. go_on (idx_from_tokens r₂) f) λ y r₁.
    then_on (idx_between IdxOp.Div r₁) _ f (λ r₂. go_on (idx_from_tokens r₂) f) λ _ r₂. last_on (idx_from_tokens r₂) (λ x. IdxExpr.Op IdxOp.Div x y) f
index_shaped Production.between r f = refl
index_shaped (Production.comparison o) r f = refl

abbrev pub index_seen : (List Token → Reading) → List Token → Found ℕ → Reading
index_seen f ts (found k r) = index_by (index_shape (production_of ts k)) r f
index_seen f ts nothing = Reading.Nothing

pub index-step : (ts : List Token) → All Recorded ts → (f : List Token → Reading) → go_on (idx_from_tokens ts) f ≡ index_seen f ts (last_row ts)
index-step ts all f = rw (idx_step ts, idx_head-seen ts all) (go (last_row ts))
  where
    go : (g : Found ℕ) → go_on (idx_operands idx_from_tokens (seen pick_index ts g)) f ≡ index_seen f ts g
    go (found k r) = index_shaped (production_of ts k) r f
    go nothing = refl

-- value expressions
value_shaped : (p : Production) (r : List Token) (f : List Token → Reading) → go_on (operands expr_from_tokens (picked (pick_value p) r)) f ≡ value_by (value_shape p) r f
value_shaped (Production.value (Head.const n)) r f = refl
value_shaped (Production.value (Head.lookup l)) r f = last_on (idx_from_tokens r) (lookup_expr l) f
value_shaped (Production.value (Head.unary o)) r f = last_on (expr_from_tokens r) (Expr.Unary o) f
value_shaped (Production.value (Head.binary o)) r f =
    then_on (expr_from_tokens r) _ f (λ r₁. go_on (expr_from_tokens r₁) f) λ y r₁. last_on (expr_from_tokens r₁) (λ x. Expr.Binary o x y) f
value_shaped (Production.value (Head.oracle key time)) r f = refl
value_shaped (Production.value (Head.oracle_w key time)) r f = refl
value_shaped (Production.index h) r f = refl
value_shaped Production.between r f = refl
value_shaped (Production.comparison o) r f = refl

abbrev pub value_seen : (List Token → Reading) → List Token → Found ℕ → Reading
value_seen f ts (found k r) = value_by (value_shape (production_of ts k)) r f
value_seen f ts nothing = Reading.Nothing

pub value-step : (ts : List Token) → All Recorded ts → (f : List Token → Reading) → go_on (expr_from_tokens ts) f ≡ value_seen f ts (last_row ts)
value-step ts all f = rw (expr_step ts, head-seen ts all) (go (last_row ts))
  where
    go : (g : Found ℕ) → go_on (operands expr_from_tokens (seen pick_value ts g)) f ≡ value_seen f ts g
    go (found k r) = value_shaped (production_of ts k) r f
    go nothing = refl

-- conditions
abbrev pub condition_by : Bool → List Token → Reading
condition_by false r = Reading.Nothing
condition_by true r = go_on (expr_from_tokens r) λ r₁. go_on (expr_from_tokens r₁) stop

abbrev pub condition_seen : List Token → Found ℕ → Reading
condition_seen ts (found k r) = condition_by (is_comparison (production_of ts k)) r
condition_seen ts nothing = Reading.Nothing

pub condition-step : (ts : List Token) → All Recorded ts → reading_of (from_tokens ts) ≡ condition_seen ts (last_row ts)
unfolding from_tokens
condition-step ts all = rw (comparison-seen ts all) (reading_on (and_then (seen pick_comparison ts (last_row ts)) after) ∙ go (last_row ts))
  where
    after : CmpOp → List Token → Found Arith
    after o r = and_then (expr_from_tokens r) λ y r₁. and_then (expr_from_tokens r₁) λ x r₂. found (Arith.Compare o x y) r₂

    by : (p : Production) (r : List Token) → go_on (and_then (picked (pick_comparison p) r) after) stop ≡ condition_by (is_comparison p) r
    by (Production.value h) r = refl
    by (Production.index h) r = refl
    by Production.between r = refl
    by (Production.comparison o) r =
        then_on (expr_from_tokens r) _ stop (λ r₁. go_on (expr_from_tokens r₁) stop) λ y r₁. last_on (expr_from_tokens r₁) (λ x. Arith.Compare o x y) stop

    go : (g : Found ℕ) → go_on (and_then (seen pick_comparison ts g) after) stop ≡ condition_seen ts g
    go (found k r) = by (production_of ts k) r
    go nothing = refl

-- reading on before what was read, or not
pub no_reading : {A : Type 0} (g : Found A) (f : List Token → Reading) → Reading.Nothing ≡ reading_of g → go_on g f ≡ Reading.Nothing
no_reading (found a r) f e = let z : ◌≡◌ {A = ℕ} 0 1 = cc in absurd (omega arith)
no_reading nothing f e = refl

module _ {A : Type 0} (form : A → List Token) {pick : A → A} {read : List Token → Found A} (𝓡 : Reader (λ a r. reverse (form a) ++ r) pick read)
    (t : ℕ → Token) (start middle : ℕ) (e : Reading.Read middle ≡ reading_of (read (before t start))) where
  read_on : (f : List Token → Reading) → go_on (read (before t start)) f ≡ f (before t middle)
  read_on f = go (read (before t start)) (𝓡.sound (before t start)) e
    where
      go : (g : Found A) → Reads (λ a r. reverse (form a) ++ r) g (before t start) → Reading.Read middle ≡ reading_of g → go_on g f ≡ f (before t middle)
      go (found a r) u q =
          let n : length r ≡ middle = cc in
          let there : r ≡ before t (length r) =
          tail_before t start (length (reverse (form a))) r (sym (ap (drop (length (reverse (form a)))) u ∙ drop-append_seam (reverse (form a)) r)) in
          ap f (there ∙ ap (before t) n)
      go nothing u q = let z : ◌≡◌ {A = ℕ} 0 1 = cc in absurd (omega arith)

pub index_on : (t : ℕ → Token) (start middle : ℕ) → Reading.Read middle ≡ reading_of (idx_from_tokens (before t start)) → (f : List Token → Reading)
    → go_on (idx_from_tokens (before t start)) f ≡ f (before t middle)
index_on t start middle e f = read_on idx_form idx_reader t start middle e f

pub value_on : (t : ℕ → Token) (start middle : ℕ) → Reading.Read middle ≡ reading_of (expr_from_tokens (before t start)) → (f : List Token → Reading)
    → go_on (expr_from_tokens (before t start)) f ≡ f (before t middle)
value_on t start middle e f = read_on expr_form expr_reader t start middle e f
