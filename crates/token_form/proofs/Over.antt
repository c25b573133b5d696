-- A list written over the front of a buffer: one element more.
use Prim.Native.Nat.{ℕ, suc, ◌+◌, ◌≤◌, ◌<◌}
use native.Mathlib.Omega.{arith}
use native.Mathlib.Numerals.{add-one}
use mathlib.Core.Path.{◌≡◌, refl, sym, ◌∙◌, ap, ap₂}
use mathlib.Core.List.{List, [], ◌∷◌, ◌++◌, map, append_assoc}
use lib.ListN.{get_or-map, length, take, drop, get_or, set, length-append, length-map}
use lib.Seq.{take-suc, drop-cons, set_at, take_all, length-take-le}
use Rattle.token_table.specs.declared.TokenKind.{TokenKind}
use Rattle.token_table.specs.Kinds.{number}
use Rattle.slices.specs.Bytes.{over}

-- a loop that writes the elements of vs, one a turn
pub over-set
    : (vs xs now : List ℕ) (j v d : ℕ) → j < length vs → length vs ≤ length xs
    → now ≡ over (take j vs) xs → v ≡ get_or vs j d → set now j v ≡ over (take (j + 1) vs) xs
over-set vs xs now j v d h k e e' =
    let ws = take j vs in
    let a = get_or vs j d in
    let here : length ws ≡ j = length-take-le j vs (omega arith) in
    let next : length (ws ++ a ∷ []) ≡ suc j = length-append ws (a ∷ []) ∙ omega arith in
    ap₂ (λ (l : List ℕ) (w : ℕ). set l j w) e e'
    ∙ ap (λ (l : List ℕ). set (ws ++ l) j a) (ap (λ (n : ℕ). drop n xs) here ∙ drop-cons xs j 0 (omega arith))
    ∙ set_at ws _ _ a j here
    ∙ sym (rw (add-one j, take-suc vs j d h) (append_assoc ws (a ∷ []) _ ∙ ap (λ (n : ℕ). ws ++ a ∷ drop n xs) next))

-- where they are made of the kinds of a row
module _ (f : ℕ → ℕ) (row : List TokenKind) where
  abbrev pub made : List ℕ
  made = map f (map number row)

  made_long : length made ≡ length row
  made_long = length-map (map number row) f ∙ length-map row number

  pub over_turn : (xs now : List ℕ) (j v : ℕ) (d : TokenKind) → j < length row → length row ≤ length xs → now ≡ over (take j made) xs → v ≡ f (number (get_or row j d))
      → set now j v ≡ over (take (j + 1) made) xs
  over_turn xs now j v d h k e q =
      over-set made xs now j v (f (number d)) (omega (arith, made_long)) (omega (arith, made_long)) e
      (q ∙ sym (get_or-map f (map number row) j (number d) ∙ ap f (get_or-map number row j d)))

  pub over_end : (xs now : List ℕ) (j : ℕ) → length row ≤ j → now ≡ over (take j made) xs → now ≡ over made xs
  over_end xs now j h e = rw (take_all j made (omega (arith, made_long))) at e

pub same_row : (row : List ℕ) → map (λ k. k) row ≡ row
same_row [] = refl
same_row (k ∷ row) = ap (λ ks. k ∷ ks) (same_row row)
