-- Pieces, one after the other: the last one, and those before it (`pieces_step`).
use Prim.Native.Nat.{ℕ, zero, suc, ◌+◌, ◌-◌, ◌≤◌}
use mathlib.Core.Path.{◌≡◌, refl, sym, ap, ap₂, ◌∙◌}
use mathlib.Core.List.{List, [], ◌∷◌, ◌++◌, append_assoc, append-nil}
use native.Mathlib.Nat.{sub-zero, suc-sub-suc, zero-sub}
use native.Mathlib.Omega.{arith}
use lib.ListN.{drop}
use lib.Seq.{drop-drop}
use Rattle.semantics.specs.Operations.{Token}
use Rattle.emission.specs.Pieces.{Piece, bytes_of, joined, part, pieces, pieces_after}

skips : (s n : ℕ) (ts : List Token) → pieces_after s n ts ≡ pieces (n - s) (drop s ts)
unfolding pieces_after
skips zero n ts = ap (λ (k : ℕ). pieces_after 0 k ts) (sym (sub-zero n))
skips (suc s) zero ts = ap (λ (k : ℕ). pieces_after 0 k (drop (suc s) ts)) (sym (zero-sub (suc s)))
skips (suc s) (suc n) ts =
    skips s n (drop 1 ts) ∙ ap₂ (λ (k : ℕ) (l : List Token). pieces_after 0 k l) (sym (suc-sub-suc n s)) (drop-drop s 1 ts ∙ ap (λ (k : ℕ). drop k ts) one)
  where
    one : 1 + s ≡ suc s
    one = omega arith

pub pieces_step : (n : ℕ) (ts : List Token) (w : ℕ) → (part ts).width ≡ w → 1 ≤ w
    → pieces (suc n) ts ≡ pieces (suc n - w) (drop w ts) ++ (part ts).piece ∷ []
unfolding pieces_after
pieces_step n ts w e h =
    let back : 1 + ((part ts).width - 1) ≡ w = omega arith in
    let count : n - ((part ts).width - 1) ≡ suc n - w = omega arith in
    ap (λ (l : List Piece). l ++ (part ts).piece ∷ [])
    (skips ((part ts).width - 1) n (drop 1 ts)
    ∙ ap₂ (λ (k : ℕ) (l : List Token). pieces k l) count (drop-drop ((part ts).width - 1) 1 ts ∙ ap (λ (k : ℕ). drop k ts) back))

pub joined-append : (a b : List Piece) → joined (a ++ b) ≡ joined a ++ joined b
unfolding joined
joined-append [] b = refl
joined-append (p ∷ ps) b = rw (joined-append ps b) (simp append_assoc)

pub joined_one : (p : Piece) → joined (p ∷ []) ≡ bytes_of p
unfolding joined
joined_one p = append-nil (bytes_of p)
