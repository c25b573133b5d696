-- The elements that are left by their ends: the top one is a part of the bytes (`top_some`), and a pop of the definitions is one of the lent record (`pops`),
-- whose bytes, or refusal, the ends give (`pop_taken`).
use Rattle.std.proofs.Common.{◌≡◌, ℕ, zero, suc, ◌+◌, ◌-◌, ◌≤◌, ◌<◌, Bool, true, false, cond, ◌&&◌, List, [], ◌∷◌, ◌++◌, reverse, length, get_or, take, drop, eqb, leb, refl, ap, ◌∙◌, arith, Option, Some, None, Result, Ok, Err}
use mathlib.Core.List.{reverse-append}
use borrow.Author.Tests.{eqb-true, leb-true}
use lib.ListN.{length-reverse}
use lib.Seq.{slice, length-take-le}
use Rattle.slices.proofs.Bytes.{drop-take, part_length}
use Rattle.semantics.specs.declared.Refusal.{Refusal}
use Rattle.semantics.specs.Evaluate.{elements, ends_sound}
use Rattle.semantics.specs.Evaluation.{Outcome, State, err, ok, pop}
use Rattle.semantics.proofs.Tests.{and_true}
use Rattle.witness.specs.Elements.{left_of, start_of, state_of, taken, top_of}

-- where element k starts, if the first starts at s
abbrev start_from : ℕ → List ℕ → ℕ → ℕ
start_from s ends zero = s
start_from s ends (suc k) = get_or ends k 0

start-next : (s e : ℕ) (es : List ℕ) (k : ℕ) → start_from s (e ∷ es) (suc k) ≡ start_from e es k
start-next s e es zero = refl
start-next s e es (suc k) = refl

start_is : (ends : List ℕ) (n : ℕ) → start_from 0 ends n ≡ start_of ends n
start_is ends zero = refl
start_is ends (suc n) = refl

elements-next : (s : ℕ) (w ends : List ℕ) (n : ℕ) → n < length ends
    → elements s w (take (suc n) ends) ≡ elements s w (take n ends) ++ slice (start_from s ends n) (get_or ends n 0) w ∷ []
elements-next s w [] n h = absurd (omega arith)
elements-next s w (e ∷ es) zero h = refl
elements-next s w (e ∷ es) (suc n) h =
    ap (λ (r : List (List ℕ)). slice s e w ∷ r) (rw (start-next s e es n) (elements-next e w es n (omega arith)))

-- sound ends rise, within the bytes
rise : (s size : ℕ) (ends : List ℕ) → ends_sound s size ends ≡ true → (n : ℕ) → n < length ends → (start_from s ends n ≤ get_or ends n 0) × (get_or ends n 0 ≤ size)
rise s size [] h n l = absurd (omega arith)
rise s size (e ∷ es) h zero l =
    let p = and_true (leb s e && leb e size) (ends_sound e size es) h in
    let q = and_true (leb s e) (leb e size) p.0 in
    (leb-true s e q.0, leb-true e size q.1)
rise s size (e ∷ es) h (suc n) l =
    let p = and_true (leb s e && leb e size) (ends_sound e size es) h in
    rw (start-next s e es n) (rise e size es p.1 n (omega arith))

pub rises : (size : ℕ) (ends : List ℕ) → ends_sound 0 size ends ≡ true → (n : ℕ) → n < length ends → (start_of ends n ≤ get_or ends n 0) × (get_or ends n 0 ≤ size)
rises size ends h n l = rw (start_is ends n) at (rise 0 size ends h n l)

elements-count : (s : ℕ) (w ends : List ℕ) → length (elements s w ends) ≡ length ends
elements-count s w [] = refl
elements-count s w (e ∷ es) = ap suc (elements-count e w es)

pub left-count : (w ends : List ℕ) (n : ℕ) → n ≤ length ends → length (left_of w ends n) ≡ n
unfolding left_of
left-count w ends n h = length-reverse (elements 0 w (take n ends)) ∙ elements-count 0 w (take n ends) ∙ length-take-le n ends h

module _ (w ends : List ℕ) where
  left-next : (n : ℕ) → n < length ends → left_of w ends (suc n) ≡ slice (start_of ends n) (get_or ends n 0) w ∷ left_of w ends n
  unfolding left_of
  left-next n h =
      rw (← start_is ends n)
      (ap reverse (elements-next 0 w ends n h) ∙ reverse-append (elements 0 w (take n ends)) (slice (start_from 0 ends n) (get_or ends n 0) w ∷ []))

  left_none : left_of w ends 0 ≡ []
  unfolding left_of
  left_none = refl

  pub top_none : (n : ℕ) → n ≡ 0 → top_of (left_of w ends n) ≡ None
  top_none n e = rw (e, left_none)

  pub top_some : ends_sound 0 (length w) ends ≡ true → (n k : ℕ) → n ≡ k + 1 → n ≤ length ends
      → top_of (left_of w ends n) ≡ Some (take (get_or ends k 0 - start_of ends k) (drop (start_of ends k) w))
  top_some sound n k e h =
      let r = rises (length w) ends sound k (omega arith) in
      let f : get_or ends k 0 ≡ start_of ends k + (get_or ends k 0 - start_of ends k) = omega (arith, r.0) in
      let g : n ≡ suc k = omega arith in
      rw (g, left-next k (omega arith)) (ap Some (ap (λ t. slice (start_of ends k) t w) f ∙ drop-take (start_of ends k) (get_or ends k 0 - start_of ends k) w))

  -- what a pop answers of n elements, by where the top one starts and ends
  abbrev pub answered : ℕ → Refusal → Refusal → ℕ → Result (List ℕ) Refusal
  answered width absent wrong zero = Err absent
  answered width absent wrong (suc k) =
      cond (eqb (get_or ends k 0 - start_of ends k) width) (Ok (take width (drop (start_of ends k) w))) (Err wrong)

  module _ (out : List ℕ) (checks width : ℕ) (absent wrong : Refusal) where
    abbrev pub popped : Option (List ℕ) → State → Outcome State (List ℕ)
    popped None st = err absent st
    popped (Some e) st = cond (eqb (length e) width) (ok e st) (err wrong st)

    pub pops : (n : ℕ) → n ≤ length ends
        → pop width absent wrong (state_of w ends out n checks) ≡ popped (top_of (left_of w ends n)) (state_of w ends out (n - 1) checks)
    pops zero h = rw left_none
    pops (suc k) h = let less : suc k - 1 ≡ k = omega arith in rw (less, left-next k (omega arith))

    pub pop_taken : ends_sound 0 (length w) ends ≡ true → (n : ℕ) → n ≤ length ends
        → pop width absent wrong (state_of w ends out n checks) ≡ taken (λ e. e) (answered width absent wrong n) (state_of w ends out (n - 1) checks)
    pop_taken sound zero h = pops zero h ∙ rw (top_none 0 refl)
    pop_taken sound (suc k) h =
        let r = rises (length w) ends sound k (omega arith) in
        pops (suc k) h
        ∙ rw (top_some sound (suc k) k (omega arith) h, part_length w (start_of ends k) (get_or ends k 0 - start_of ends k) (omega (arith, r.0, r.1)))
        (go (state_of w ends out (suc k - 1) checks) (eqb (get_or ends k 0 - start_of ends k) width) refl)
      where
        go : (st : State) (b : Bool) → eqb (get_or ends k 0 - start_of ends k) width ≡ b
            → cond b (ok (take (get_or ends k 0 - start_of ends k) (drop (start_of ends k) w)) st) (err wrong st)
            ≡ taken (λ e. e) (cond b (Ok (take width (drop (start_of ends k) w))) (Err wrong)) st
        go st true e = rw (eqb-true (get_or ends k 0 - start_of ends k) width e)
        go st false e = refl
