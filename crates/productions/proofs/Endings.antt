-- The row that tokens end with is that of the production whose own tokens they end with: `production_own`, `last_row_sound`. So the
-- definitions' heads are seen from it (`head-seen`, `idx_head-seen`, `comparison-seen`).
use Prim.Native.Nat.{ℕ, zero, suc, ◌<◌}
use mathlib.Core.Bool.{Bool, true, false, cond, ◌&&◌}
use mathlib.Core.Option.{Option, none, some}
use mathlib.Core.Path.{◌≡◌, refl, sym, ap, ◌∙◌}
use mathlib.Core.List.{List, [], ◌∷◌, ◌++◌, map, reverse}
use native.Mathlib.Omega.{arith}
use borrow.Author.Tests.{eqb-true, ltb-true, ne_eqb}
use lib.Dec.{eqb, ltb}
use lib.ListN.{length, get_or, drop, get_or-map}
use Rattle.slices.specs.Bytes.{All, bytes_value}
use Rattle.semantics.specs.Operations.{Token, op, num, bytes8, bytes32, cmp_ops, cmp_row, idx_ops}
use Rattle.semantics.specs.declared.AmountList.{AmountList}
use Rattle.semantics.specs.declared.BinOp.{BinOp}
use Rattle.semantics.specs.declared.CmpOp.{CmpOp}
use Rattle.semantics.specs.declared.IdxOp.{IdxOp}
use Rattle.semantics.specs.declared.UnOp.{UnOp}
use Rattle.semantics.specs.Token.{expr_form}
use Rattle.semantics.specs.Records.{token_of}
use Rattle.semantics.specs.FromTokens.{Found, Head, IdxHead, comparison, found, head, head_form, heads, idx_head, idx_head_form, nothing, number_at}
use Rattle.semantics.proofs.Find.{Reads, find_sound}
use Rattle.semantics.proofs.Heads.{comparison_own, head_own, idx_head_own}
use Rattle.semantics.proofs.Tests.{and_true}
use Rattle.productions.specs.Ending.{Production, candidate_of, ending, ends, fits, last_row, production_of, productions, Row, blank, row_at, rows}
use Rattle.productions.proofs.Tokens.{Recorded}

-- the token that has a mark, as far as the mark leaves it open taken from another
abbrev refit : ℕ → Token → Token
refit m t =
    cond (eqb m 36) (num 1) (cond (eqb m 1) (num t.number) (cond (eqb m 2) (bytes8 t.number) (cond (eqb m 3) (bytes32 t.key) (op m))))

refit_own : (kind number : ℕ) (key : List ℕ) → eqb kind 36 ≡ false → let t = token_of kind number key in t ≡ refit kind t
refit_own zero number key e = refl
refit_own (suc zero) number key e = refl
refit_own (suc (suc zero)) number key e = refl
refit_own (suc (suc (suc zero))) number key e = refl
refit_own (suc (suc (suc (suc k)))) number key e =
    let kind = suc (suc (suc (suc k))) in
    rw (e, ne_eqb kind 1 (λ q. omega arith), ne_eqb kind 2 (λ q. omega arith), ne_eqb kind 3 (λ q. omega arith))

one : (kind number : ℕ) (key : List ℕ) → kind ≡ 1 → (token_of kind number key).number ≡ 1 → token_of kind number key ≡ num 1
one kind number key e = rw e λ n. ap num n

fits-refit : (m : ℕ) (t : Token) → Recorded t → fits m t.kind t.number ≡ true → t ≡ refit m t
fits-refit m t (kind, number, key, is) e = rw is (go (eqb m 36) refl (rw is at e))
  where
    go : (b : Bool) → eqb m 36 ≡ b → fits m kind (token_of kind number key).number ≡ true → token_of kind number key ≡ refit m (token_of kind number key)
    go true q f =
        let h = and_true (eqb kind 1) (eqb (token_of kind number key).number 1) (rw q at f) in
        rw q (one kind number key (eqb-true kind 1 h.0) (eqb-true (token_of kind number key).number 1 h.1))
    go false q f =
        let k : kind ≡ m = eqb-true kind m (rw q at f) in
        rw (← k) (refit_own kind number key (rw k q))

refits : (ℕ → Token) → List ℕ → List Token
refits at [] = []
refits at (m ∷ ms) = refit m (at 0) ∷ refits (λ i. at (suc i)) ms

ends_sound_lem : (ms : List ℕ) (ts : List Token) → All Recorded ts → ends ms ts ≡ true → ts ≡ refits (λ i. get_or ts i (op 0)) ms ++ drop (length ms) ts
unfolding ends refits
ends_sound_lem [] ts r e = refl
ends_sound_lem (m ∷ ms) [] r e = cc
ends_sound_lem (m ∷ ms) (t ∷ ts) r e =
    let h = and_true (fits m t.kind t.number) (ends ms ts) e in
    let a = fits-refit m t r.0 h.0 in let b = ends_sound_lem ms ts r.1 h.1 in
    ap (λ (x : Token). x ∷ ts) a ∙ ap (λ (l : List Token). refit m t ∷ l) b

-- each row's marks are those of its production
pub get_d_any : {A : Type 0} (l : List A) (i : ℕ) (d e : A) → i < length l → get_or l i d ≡ get_or l i e
get_d_any [] i d e h = absurd (omega arith)
get_d_any (a ∷ l) zero d e h = refl
get_d_any (a ∷ l) (suc i) d e h = get_d_any l i d e (omega arith)

rows-refit : (ts : List Token) → map (λ (r : Row). refits (λ i. get_or ts i (op 0)) r.marks) rows ≡ map ending (productions ts)
unfolding rows ending head_form idx_head_form expr_form refits bytes_value
rows-refit ts = refl

row-refit : (ts : List Token) (k : ℕ) → k < 29 → refits (λ i. get_or ts i (op 0)) (row_at k).marks ≡ ending (production_of ts k)
unfolding rows
row-refit ts k h =
    let f : Row → List Token = λ r. refits (λ i. get_or ts i (op 0)) r.marks in
    sym (get_or-map f rows k blank) ∙ get_d_any (map f rows) k (f blank) (ending Production.between) h
    ∙ ap (λ (l : List (List Token)). get_or l k (ending Production.between)) (rows-refit ts)
    ∙ get_or-map ending (productions ts) k Production.between

-- what a row that is found says
pub record Ends (ts : List Token) (k : ℕ) (r : List Token) : Type 0 where
  pub is : candidate_of ts ≡ k
  pub row : k < 29
  pub marked : ends (row_at k).marks ts ≡ true
  pub rest : drop (length (row_at k).marks) ts ≡ r

pub last_row-ends : (ts : List Token) (k : ℕ) (r : List Token) → last_row ts ≡ found k r → Ends ts k r
unfolding last_row
last_row-ends ts k r e = go (ltb (candidate_of ts) 29) (ends (row_at (candidate_of ts)).marks ts) refl refl e
  where
    go : (a b : Bool) → ltb (candidate_of ts) 29 ≡ a → ends (row_at (candidate_of ts)).marks ts ≡ b
        → cond (a && b) (found (candidate_of ts) (drop (length (row_at (candidate_of ts)).marks) ts)) nothing ≡ found k r → Ends ts k r
    go true true p q f =
        let c : candidate_of ts ≡ k = cc in
        let d : drop (length (row_at (candidate_of ts)).marks) ts ≡ r = cc in
        record { is = c; row = rw c at (ltb-true (candidate_of ts) 29 p); marked = rw c at q; rest = rw c at d }
    go true false p q f = let z : ◌≡◌ {A = ℕ} 0 1 = cc in absurd (omega arith)
    go false b p q f = let z : ◌≡◌ {A = ℕ} 0 1 = cc in absurd (omega arith)

pub last_row_sound : (ts : List Token) → All Recorded ts → (k : ℕ) (r : List Token) → last_row ts ≡ found k r → ts ≡ ending (production_of ts k) ++ r
last_row_sound ts all k r e =
    let h = last_row-ends ts k r e in
    ends_sound_lem (row_at k).marks ts all h.marked
    ∙ ap (λ (l : List Token). l ++ drop (length (row_at k).marks) ts) (row-refit ts k h.row) ∙ ap (λ (l : List Token). ending (production_of ts k) ++ l) h.rest

-- and a production's own tokens are found, in the row that is its own
abbrev Own : Production → List Token → Type 0
Own p r = (k : ℕ) × (last_row (ending p ++ r) ≡ found k r) × (production_of (ending p ++ r) k ≡ p)

pub production_own : (p : Production) (r : List Token) → Own p r
unfolding last_row ending head_form idx_head_form expr_form rows ends bytes_value
production_own (Production.value (Head.const n)) r = (0, refl, refl)
production_own (Production.value (Head.lookup AmountList.Input)) r = (1, refl, refl)
production_own (Production.value (Head.lookup AmountList.Output)) r = (2, refl, refl)
production_own (Production.value (Head.lookup AmountList.InputIssue)) r = (3, refl, refl)
production_own (Production.value (Head.lookup AmountList.InputReIssue)) r = (4, refl, refl)
production_own (Production.value (Head.unary UnOp.Invert)) r = (5, refl, refl)
production_own (Production.value (Head.unary UnOp.Negate)) r = (6, refl, refl)
production_own (Production.value (Head.binary BinOp.Add)) r = (7, refl, refl)
production_own (Production.value (Head.binary BinOp.Sub)) r = (8, refl, refl)
production_own (Production.value (Head.binary BinOp.Mul)) r = (9, refl, refl)
production_own (Production.value (Head.binary BinOp.Div)) r = (10, refl, refl)
production_own (Production.value (Head.binary BinOp.Mod)) r = (11, refl, refl)
production_own (Production.value (Head.binary BinOp.BitAnd)) r = (12, refl, refl)
production_own (Production.value (Head.binary BinOp.BitOr)) r = (13, refl, refl)
production_own (Production.value (Head.binary BinOp.Xor)) r = (14, refl, refl)
production_own (Production.value (Head.oracle key time)) r = (15, refl, refl)
production_own (Production.value (Head.oracle_w key time)) r = (16, refl, refl)
production_own (Production.index (IdxHead.const n)) r = (17, refl, refl)
production_own (Production.index IdxHead.curr) r = (18, refl, refl)
production_own (Production.index (IdxHead.oper IdxOp.Add)) r = (19, refl, refl)
production_own (Production.index (IdxHead.oper IdxOp.Sub)) r = (20, refl, refl)
production_own (Production.index (IdxHead.oper IdxOp.Mul)) r = (21, refl, refl)
production_own (Production.index (IdxHead.oper IdxOp.Div)) r = (22, refl, refl)
production_own Production.between r = (23, refl, refl)
production_own (Production.comparison CmpOp.Eq) r = (24, refl, refl)
production_own (Production.comparison CmpOp.Lt) r = (25, refl, refl)
production_own (Production.comparison CmpOp.Leq) r = (26, refl, refl)
production_own (Production.comparison CmpOp.Gt) r = (27, refl, refl)
production_own (Production.comparison CmpOp.Geq) r = (28, refl, refl)

-- one kind of production, as the definitions find it, is seen from the row
abbrev pub picked : {H : Type 0} → Option H → List Token → Found H
picked none r = nothing
picked (some h) r = found h r

abbrev pub seen : {H : Type 0} → (Production → Option H) → List Token → Found ℕ → Found H
seen pick ts nothing = nothing
seen pick ts (found k r) = picked (pick (production_of ts k)) r

module _ {H : Type 0} (form : H → List Token) (read : List Token → Found H) (make : H → Production) (pick : Production → Option H)
    (is : (h : H) → ending (make h) ≡ form h) (own : (h : H) (r : List Token) → read (form h ++ r) ≡ found h r)
    (sound : (ts : List Token) → Reads (λ h r. form h ++ r) (read ts) ts)
    (made : (h : H) → pick (make h) ≡ some h) (makes : (p : Production) (h : H) → pick p ≡ some h → p ≡ make h) where
  all_seen : (ts : List Token) → All Recorded ts → read ts ≡ seen pick ts (last_row ts)
  all_seen ts all = go (read ts) (sound ts) refl (last_row ts) refl
    where
      go : (g : Found H) → Reads (λ h r. form h ++ r) g ts → read ts ≡ g → (f : Found ℕ) → last_row ts ≡ f → g ≡ seen pick ts f
      go (found h s) u p f q =
          let o = production_own (make h) s in
          let at : ts ≡ ending (make h) ++ s = u ∙ ap (λ (l : List Token). l ++ s) (sym (is h)) in
          let t : last_row ts ≡ found o.0 s = ap last_row at ∙ o.1 in
          let w : production_of ts o.0 ≡ make h = ap (λ (l : List Token). production_of l o.0) at ∙ o.2 in
          rw (sym q ∙ t, w, made h)
      go nothing u p nothing q = refl
      go nothing u p (found k r) q = none_seen (pick (production_of ts k)) refl
        where
          none_seen : (x : Option H) → pick (production_of ts k) ≡ x → nothing ≡ picked x r
          none_seen none w = refl
          none_seen (some h) w =
              let at : ts ≡ form h ++ r =
              last_row_sound ts all k r q ∙ ap (λ (x : Production). ending x ++ r) (makes (production_of ts k) h w) ∙ ap (λ (l : List Token). l ++ r) (is h) in
              sym p ∙ ap read at ∙ own h r

abbrev pub pick_value : Production → Option Head
pick_value (Production.value h) = some h
pick_value (Production.index h) = none
pick_value Production.between = none
pick_value (Production.comparison o) = none

abbrev pub pick_index : Production → Option IdxHead
pick_index (Production.value h) = none
pick_index (Production.index h) = some h
pick_index Production.between = none
pick_index (Production.comparison o) = none

abbrev pub pick_comparison : Production → Option CmpOp
pick_comparison (Production.value h) = none
pick_comparison (Production.index h) = none
pick_comparison Production.between = none
pick_comparison (Production.comparison o) = some o

abbrev pub is_comparison : Production → Bool
is_comparison (Production.value h) = false
is_comparison (Production.index h) = false
is_comparison Production.between = false
is_comparison (Production.comparison o) = true

value_makes : (p : Production) (h : Head) → pick_value p ≡ some h → p ≡ Production.value h
value_makes (Production.value g) h e = cc
value_makes (Production.index g) h e = cc
value_makes Production.between h e = cc
value_makes (Production.comparison o) h e = cc

index_makes : (p : Production) (h : IdxHead) → pick_index p ≡ some h → p ≡ Production.index h
index_makes (Production.value g) h e = cc
index_makes (Production.index g) h e = cc
index_makes Production.between h e = cc
index_makes (Production.comparison o) h e = cc

comparison_makes : (p : Production) (o : CmpOp) → pick_comparison p ≡ some o → p ≡ Production.comparison o
comparison_makes (Production.value g) o e = cc
comparison_makes (Production.index g) o e = cc
comparison_makes Production.between o e = cc
comparison_makes (Production.comparison c) o e = cc

pub head-seen : (ts : List Token) → All Recorded ts → head ts ≡ seen pick_value ts (last_row ts)
unfolding ending head
head-seen = all_seen head_form head Production.value pick_value (λ h. refl) head_own (λ ts. find_sound head_form (heads ts) ts) (λ h. refl) value_makes

pub idx_head-seen : (ts : List Token) → All Recorded ts → idx_head ts ≡ seen pick_index ts (last_row ts)
unfolding ending idx_head
idx_head-seen =
    all_seen idx_head_form idx_head Production.index pick_index (λ h. refl) idx_head_own
    (λ ts. find_sound idx_head_form (IdxHead.const (number_at ts 0) ∷ IdxHead.curr ∷ map IdxHead.oper idx_ops) ts) (λ h. refl) index_makes

pub comparison-seen : (ts : List Token) → All Recorded ts → comparison ts ≡ seen pick_comparison ts (last_row ts)
unfolding ending comparison
comparison-seen =
    let form : CmpOp → List Token = λ o. reverse (cmp_row o).form in
    all_seen form comparison Production.comparison pick_comparison (λ o. refl) comparison_own (λ ts. find_sound form cmp_ops ts) (λ o. refl) comparison_makes
