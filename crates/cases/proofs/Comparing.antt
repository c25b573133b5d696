-- What a comparison of numbers one by one says of the whole, of a buffer that holds what is known, and of a call that was lent a part of it.
use Prim.Native.Nat.{ℕ, zero, suc, ◌+◌, ◌-◌, ◌*◌, ◌/◌, ◌≤◌, ◌<◌}
use mathlib.Core.Path.{◌≡◌, refl, sym, ap, ap₂, ◌∙◌}
use mathlib.Core.Bool.{Bool, true, false, ◌&&◌, false≢true, not}
use mathlib.Core.List.{List, [], ◌∷◌, ◌++◌}
use native.Mathlib.Nat.{mul-div-le, mul-suc, sub-zero, suc-sub-suc, zero-sub}
use native.Mathlib.Numerals.{add-one}
use native.Mathlib.Omega.{arith}
use borrow.Author.Tests.{eqb-true, le-leb, lt-leb, not-false, not-true}
use lib.Dec.{eqb}
use lib.ListN.{length, get_or, take, drop, replicate, drop_of_length-le, length-drop}
use lib.Pointwise.{pointwise}
use lib.Seq.{drop-cons, drop-drop}
use Rattle.std.specs.List.{list_all}
use Rattle.cases.specs.Cases.{number_at, numbers_by, whole_by}
use Rattle.cases.specs.Known.{begins, begins_by, fill, fresh, held, held_by, known}
use Rattle.cases.proofs.Reading.{length_numbers, number-drop, number-there}

-- a buffer before the call, and its front and its rest
module _ {A : Type 0} where
  pub take-fresh : (m n : ℕ) (x : A) → m ≤ n → take m (fresh n x) ≡ fresh m x
  unfolding fresh
  take-fresh zero n x h = refl
  take-fresh (suc m) zero x h = absurd (omega arith)
  take-fresh (suc m) (suc n) x h = ap (λ (l : List A). x ∷ l) (take-fresh m n x (omega arith))

  pub drop-fresh : (m n : ℕ) (x : A) → drop m (fresh n x) ≡ fresh (n - m) x
  unfolding fresh
  drop-fresh zero n x = rw sub-zero
  drop-fresh (suc m) zero x = rw zero-sub
  drop-fresh (suc m) (suc n) x = rw suc-sub-suc (drop-fresh m n x)

and_true : (a b : Bool) → (a && b) ≡ true → (a ≡ true) × (b ≡ true)
and_true true b e = (refl, e)
and_true false b e = (e, cc)

and_false : (b : Bool) → (b && false) ≡ false
and_false true = refl
and_false false = refl

and_assoc : (a b c : Bool) → (a && (b && c)) ≡ ((a && b) && c)
and_assoc true b c = refl
and_assoc false b c = refl

module _ {A : Type 0} (same : A → A → Bool) where
  module _ (f : A) where
    -- a buffer that begins with the known numbers, and one that does not
    pub held_some : (ks xs : List A) → pointwise same (take (length ks) xs) ks ≡ true
        → held_by same f ks xs ≡ list_all (λ x. same x f) (drop (length ks) xs)
    unfolding held_by
    held_some [] xs e = refl
    held_some (k ∷ ks) [] e = absurd (false≢true e)
    held_some (k ∷ ks) (x ∷ xs) e =
        let p = and_true (same x k) (pointwise same (take (length ks) xs) ks) e in
        rw (p.0, held_some ks xs p.1)

    pub held_none : (ks xs : List A) → pointwise same (take (length ks) xs) ks ≡ false → held_by same f ks xs ≡ false
    unfolding held_by
    held_none [] xs e = absurd (false≢true (sym e))
    held_none (k ∷ ks) [] e = refl
    held_none (k ∷ ks) (x ∷ xs) e = go (same x k) e (held_none ks xs)
      where
        go : (b : Bool) → (b && pointwise same (take (length ks) xs) ks) ≡ false
            → (pointwise same (take (length ks) xs) ks ≡ false → held_by same f ks xs ≡ false) → (b && held_by same f ks xs) ≡ false
        go true h more = more h
        go false h more = refl

    pub held_short : (ks xs : List A) → length xs < length ks → held_by same f ks xs ≡ false
    unfolding held_by
    held_short [] xs h = absurd (omega arith)
    held_short (k ∷ ks) [] h = refl
    held_short (k ∷ ks) (x ∷ xs) h = rw (held_short ks xs (omega arith)) (and_false (same x k))

  module _ (of : ℕ → A) (k : ℕ) (positive : 0 < k) where
    -- the same of the numbers of a part
    pub held_numbers : (f : A) (n : ℕ) (part : List ℕ) (xs : List A) → k * n ≤ length part → n ≤ length xs
        → held_by same f (numbers_by of k n part) xs ≡ (begins_by same of k part (take n xs) && list_all (λ x. same x f) (drop n xs))
    unfolding held_by begins_by numbers_by
    held_numbers f zero part xs h l = refl
    held_numbers f (suc n) part [] h l = absurd (omega arith)
    held_numbers f (suc n) part (x ∷ xs) h l =
        let room : k + k * n ≤ length part = omega (arith, mul-suc k n) in
        let rest : k * n ≤ length (drop k part) = rw length-drop (omega arith) in
        rw (
          held_numbers f n (drop k part) xs rest (omega arith),
          number-there k part 0 (omega (arith, room)),
          and_assoc (same x (of _)) _ _,
        )

    -- the first numbers of a buffer and its rest, as it was cut by how many there are in the part
    pub held_parts : (f : A) (part : List ℕ) (xs ns rest : List A) (m : ℕ) → m ≡ k
        → (length part / m ≤ length xs) × (ns ≡ take (length part / m) xs) × (rest ≡ drop (length part / m) xs) × (length ns ≡ length part / m)
        × (length rest + length part / m ≡ length xs)
        → held_by same f (whole_by of k part) xs ≡ (begins_by same of k part ns && list_all (λ x. same x f) rest)
    held_parts f part xs ns rest m e h =
        let cut = rw e at h in
        rw (cut.1, cut.2) (held_numbers f (length part / k) part xs (mul-div-le (length part) k) cut.0)

    pub held_few : (f : A) (part : List ℕ) (xs : List A) (m : ℕ) → m ≡ k → length xs < length part / m → held_by same f (whole_by of k part) xs ≡ false
    held_few f part xs m e h =
        let short : length xs < length (whole_by of k part) = rw length_numbers (rw e at h) in
        held_short f (whole_by of k part) xs short

    -- a turn of a comparison one by one: it goes on where two numbers are the same, is false where they differ, and is over past the last
    module _ (part : List ℕ) (ns : List A) (i : ℕ) where
      from_here : (x : A) → i < length ns → x ≡ get_or ns i x
          → begins_by same of k (drop (k * i) part) (drop i ns)
          ≡ (same x (of (number_at k part (k * i))) && begins_by same of k (drop (k * (i + 1)) part) (drop (i + 1) ns))
      unfolding begins_by
      from_here x h e =
          let m : k * i + k ≡ k * (i + 1) = omega (arith, mul-suc k i, add-one i) in
          rw (← m, ← drop-drop k (k * i) part, add-one i, drop-cons ns i x h, ← e, number-drop k part (k * i) positive)

      -- y is the i-th number of the part, and the test says whether x is another
      pub begins_more : (x y : A) (test : Bool) → i < length ns → x ≡ get_or ns i x → y ≡ of (number_at k part (k * i)) → test ≡ not (same x y) → test ≡ false
          → begins_by same of k (drop (k * i) part) (drop i ns) ≡ begins_by same of k (drop (k * (i + 1)) part) (drop (i + 1) ns)
      begins_more x y test h e n t f = from_here x h e ∙ rw (← n, not-false (same x y) (sym t ∙ f))

      pub begins_other : (x y : A) (test : Bool) → i < length ns → x ≡ get_or ns i x → y ≡ of (number_at k part (k * i)) → test ≡ not (same x y) → test ≡ true
          → begins_by same of k (drop (k * i) part) (drop i ns) ≡ false
      begins_other x y test h e n t f = from_here x h e ∙ rw (← n, not-true (same x y) (sym t ∙ f))

      pub begins_past : length ns ≤ i → begins_by same of k (drop (k * i) part) (drop i ns) ≡ true
      unfolding begins_by
      begins_past h = rw (drop_of_length-le ns {i = i} h)

-- what a comparison that held says of the buffer
filled_is : (f : ℕ) (xs : List ℕ) → list_all (λ x. eqb x f) xs ≡ true → xs ≡ replicate (length xs) f
filled_is f [] e = refl
filled_is f (x ∷ xs) e =
    let p = and_true (eqb x f) (list_all (λ x. eqb x f) xs) e in ap₂ ◌∷◌ (eqb-true x f p.0) (filled_is f xs p.1)

pub held_is : (f : ℕ) (ks xs : List ℕ) → held f ks xs ≡ true → xs ≡ ks ++ replicate (length xs - length ks) f
unfolding held_by
held_is f [] xs e = rw sub-zero (filled_is f xs e)
held_is f (k ∷ ks) [] e = absurd (false≢true e)
held_is f (k ∷ ks) (x ∷ xs) e =
    let p = and_true (eqb x k) (held f ks xs) e in
    let n : suc (length xs) - suc (length ks) ≡ length xs - length ks = omega arith in
    rw n (ap₂ ◌∷◌ (eqb-true x k p.0) (held_is f ks xs p.1))

-- a call that was lent the front of a fresh buffer, if it was so long
module _ (size room : ℕ) (part ns bytes lent : List ℕ) where
  pub known_short : size < room → known size room part ns bytes lent ≡ false
  unfolding known
  known_short h = rw (lt-leb room size h)

  pub known-lent : room ≤ size → known size room part ns bytes lent ≡ (begins part ns && held fill bytes (lent ++ drop room (fresh size fill)))
  unfolding known
  known-lent h = rw (le-leb room size h, drop-fresh room size fill)
