-- What Check answers, by the walk: `checked_walk`.
use Rattle.std.proofs.Common.{Result, Ok, Err}
use Prim.Native.Nat.{ℕ, suc, ◌+◌, ◌≤◌}
use mathlib.Core.Path.{◌≡◌, refl, sym, ap, ◌∙◌}
use mathlib.Core.Bool.{Bool, true, false, cond}
use mathlib.Core.Option.{Option, none, some}
use mathlib.Core.List.{List, [], ◌∷◌, ◌++◌}
use native.Mathlib.Nat.{zero-add}
use native.Mathlib.Omega.{arith}
use borrow.Author.Tests.{le-ltb, leb-false, leb-true, lt-ltb, ne_eqb}
use lib.Dec.{leb, ltb}
use lib.ListN.{length}
use Rattle.semantics.specs.Refusals.{first_of, numbered, unless}
use Rattle.semantics.specs.declared.Refusal.{Refusal}
use Rattle.semantics.specs.declared.Terminal.{Terminal}
use Rattle.semantics.specs.Check.{answered, checked, condition, judged, judged_parsed, passed_unless}
use Rattle.semantics.specs.Code.{max_code, max_tokens}
use Rattle.semantics.specs.Oracle.{missing, oracle_rule, oracles, oracles_in, rule, terminals}
use Rattle.semantics.specs.Parse.{Walk, finished, parse}
use Rattle.semantics.specs.Token.{form}
use Rattle.semantics.specs.Trees.{Arith, Expr, IdxExpr}
use Rattle.summary.specs.declared.Rule.{Rule}
use Rattle.summary.specs.declared.Summary.{Summary}
use Rattle.condition.specs.Walk.{checked_as, counted, ended, examined, fold_terminals, judged_summary, judged_walk, refusal_of, ruled, told_unless, walked}
use Rattle.condition.proofs.Trees.{Beside, Both, forgot, sides, summarised, summary, summary-oracles, summary-rule, summary-tokens}

fold_terminals-counted : (n : ℕ) (ts : List Terminal) → fold_terminals counted n ts ≡ n + oracles_in ts
fold_terminals-counted n [] = omega arith
fold_terminals-counted n (Terminal.Other ∷ ts) = fold_terminals-counted n ts
fold_terminals-counted n (Terminal.PriceOracle1 ∷ ts) = omega (arith, fold_terminals-counted (n + 1) ts)
fold_terminals-counted n (Terminal.PriceOracle1W ∷ ts) = omega (arith, fold_terminals-counted (n + 1) ts)

stays : (r : Rule) → ((t : Terminal) → ruled r t ≡ r) → (ts : List Terminal) → fold_terminals ruled r ts ≡ r
stays r h [] = refl
stays r h (t ∷ ts) = ap (λ q. fold_terminals ruled q ts) (h t) ∙ stays r h ts

kept : (ts : List Terminal) → refusal_of (fold_terminals ruled Rule.Kept ts) ≡ missing ts
kept [] = refl
kept (Terminal.Other ∷ ts) = kept ts
kept (Terminal.PriceOracle1 ∷ ts) = rw (stays Rule.Missing (λ t. refl) ts)
kept (Terminal.PriceOracle1W ∷ ts) = kept ts

-- an expression has a terminal
ruled-rule : (xs ys : List Terminal) → (xs ≡ [] → ⊥) → refusal_of (fold_terminals ruled Rule.Unseen (xs ++ ys)) ≡ rule xs ys
ruled-rule [] ys h = absurd (h refl)
ruled-rule (Terminal.Other ∷ xs) ys h = kept (xs ++ ys)
ruled-rule (Terminal.PriceOracle1 ∷ xs) ys h = kept (xs ++ ys)
ruled-rule (Terminal.PriceOracle1W ∷ xs) ys h = rw (stays Rule.WFirst (λ t. refl) (xs ++ ys))

some_terminal : (x : Expr) → terminals x ≡ [] → ⊥
unfolding terminals
some_terminal (Expr.Const bits) e = let z : ◌≡◌ {A = ℕ} 0 1 = cc in omega arith
some_terminal Expr.CurrInputIdx e = let z : ◌≡◌ {A = ℕ} 0 1 = cc in omega arith
some_terminal (Expr.Lookup l i) e = let z : ◌≡◌ {A = ℕ} 0 1 = cc in omega arith
some_terminal (Expr.Binary o x y) e = some_terminal x (first (terminals x) (terminals y) e)
  where
    first : (xs ys : List Terminal) → xs ++ ys ≡ [] → xs ≡ []
    first [] ys e = refl
    first (t ∷ xs) ys e = cc
some_terminal (Expr.Unary o x) e = some_terminal x e
some_terminal (Expr.PriceOracle1 key time) e = let z : ◌≡◌ {A = ℕ} 0 1 = cc in omega arith
some_terminal (Expr.PriceOracle1W key time) e = let z : ◌≡◌ {A = ℕ} 0 1 = cc in omega arith

-- of a condition: 3, then 4 and 5, or what is passed on
judged_as : (a : Arith) (s : Summary) → s.tokens ≡ length (form a) → s.oracles ≡ oracles a → refusal_of s.rule ≡ oracle_rule a
    → answered (judged a) ≡ checked_as (judged_summary s)
unfolding judged
judged_as a s t n r = rw (← r, ← t) (go (first_of (unless (leb s.tokens max_tokens) Refusal.TooManyTokens ∷ refusal_of s.rule ∷ [])))
  where
    go : (o : Option Refusal) → answered (passed_unless o a) ≡ checked_as (told_unless o s)
    go none = rw (t, n)
    go (some q) = refl

judged-summary : (a : Arith) (ds : List Arith) (vs : List Expr) (is : List IdxExpr) (b : Beside)
    → answered (judged a) ≡ checked_as (judged_summary (summary (record { values = vs; indexes = is; conditions = a ∷ ds }) b))
unfolding oracles oracle_rule
judged-summary (Arith.Compare o x y) ds vs is b =
    judged_as (Arith.Compare o x y) (summary (record { values = vs; indexes = is; conditions = Arith.Compare o x y ∷ ds }) b)
    (summary-tokens (Arith.Compare o x y) ds vs is b)
    (summary-oracles o x y ds vs is b ∙ fold_terminals-counted 0 (terminals x ++ terminals y) ∙ zero-add (oracles_in (terminals x ++ terminals y)))
    (ap refusal_of (summary-rule o x y ds vs is b) ∙ ruled-rule (terminals x) (terminals y) (some_terminal x))

-- of a walk that has ended
going_judged : (at : ℕ) (ds : List Arith) (vs : List Expr) (is : List IdxExpr) (b : Beside)
    → let g : Walk Both = Walk.going at (record { trees = record { values = vs; indexes = is; conditions = ds }; besides = b }) in
    answered (judged_parsed (finished (forgot g))) ≡ checked_as (judged_walk (ended (summarised g)))
unfolding summary
going_judged at [] vs is b = refl
going_judged at (a ∷ ds) vs is b = rw (ne_eqb (suc (length ds)) 0 (λ e. omega arith)) (judged-summary a ds vs is b)

ended-judged : (g : Walk Both) → answered (judged_parsed (finished (forgot g))) ≡ checked_as (judged_walk (ended (summarised g)))
ended-judged (Walk.going at b) = going_judged at b.trees.conditions b.trees.values b.trees.indexes b.besides
ended-judged (Walk.refused at) = refl

pub checked_walk : (c : List ℕ) → checked c ≡ checked_as (examined c)
unfolding checked condition parse examined
checked_walk c = go (leb (length c) max_code) refl
  where
    go : (b : Bool) → leb (length c) max_code ≡ b → checked c ≡ checked_as (examined c)
    go true q =
        let w = sides c in
        rw (q, le-ltb max_code (length c) (leb-true (length c) max_code q), w.summary_is, w.trees_are) (ended-judged w.both)
    go false q = rw (q, lt-ltb max_code (length c) (leb-false (length c) max_code q))

-- 1 to 5
abbrev Early : Result Summary Refusal → Type 0
Early (Ok s) = Unit {0}
Early (Err r) = (numbered r).number ≤ 5

examined_early : (c : List ℕ) → Early (examined c)
unfolding examined
examined_early c = long (ltb max_code (length c))
  where
    ruled : (r : Rule) (s : Summary) → Early (told_unless (first_of (refusal_of r ∷ [])) s)
    ruled Rule.Unseen s = tt
    ruled Rule.Kept s = tt
    ruled Rule.WFirst s = omega arith
    ruled Rule.Missing s = omega arith

    few : (b : Bool) (s : Summary) → Early (told_unless (first_of (unless b Refusal.TooManyTokens ∷ refusal_of s.rule ∷ [])) s)
    few true s = ruled s.rule s
    few false s = omega arith

    ends : (w : Result Summary ℕ) → Early (judged_walk w)
    ends (Err at) = omega arith
    ends (Ok s) = few (leb s.tokens max_tokens) s

    long : (b : Bool) → Early (cond b (Err Refusal.CodeTooLong) (judged_walk (walked c)))
    long true = omega arith
    long false = ends (walked c)

pub refused_early : (c : List ℕ) (r : Refusal) → checked c ≡ Err r → (numbered r).number ≤ 5
refused_early c r e = go (examined c) (examined_early c) (sym (checked_walk c) ∙ e)
  where
    go : (x : Result Summary Refusal) → Early x → checked_as x ≡ Err r → (numbered r).number ≤ 5
    go (Ok s) h e = absurd (let z : ◌≡◌ {A = ℕ} 0 1 = cc in omega arith)
    go (Err q) h e = let k : q ≡ r = cc in rw (← k) h
