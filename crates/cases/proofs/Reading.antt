-- Numbers and parts that stand in a list of bytes, and those that do not; the numbers of a part one by one.
use Prim.Native.Nat.{ℕ, zero, suc, ◌+◌, ◌-◌, ◌*◌, ◌/◌, ◌^◌, ◌≤◌, ◌<◌, min}
use mathlib.Core.Bool.{Bool, cond, true, false}
use mathlib.Core.Path.{◌≡◌, refl, sym, ap, ◌∙◌}
use mathlib.Core.List.{List, [], ◌∷◌, ◌++◌}
use native.Mathlib.Decide.{dec_le}
use native.Mathlib.Nat.{div-mul-le_self, min-zero, mul_comm, mul-suc, mul-zero, mul-div-le, mul-le-mul_left, suc-min-suc, zero-add, zero-min}
use native.Mathlib.Numerals.{add-one}
use native.Mathlib.Omega.{arith}
use borrow.Author.Tests.{le-leb, lt-leb}
use lib.Dec.{leb}
use lib.ListN.{length, get_or, take, drop, set, length-drop, replicate, length-replicate}
use lib.Seq.{drop-drop, take-suc-set, take_all, take_at}
use Rattle.std.proofs.Common.{◌⊎◌, inl, inr, Bor, Option, None, Some}
use Rattle.std.specs.Int.{byte_worth, sum_through}
use Rattle.std.specs.Prelude.{SomeIff, slice_range}
use Rattle.std.specs.Option.{unwrap_or}
use Rattle.std.specs.Slice.{IsGetRangeResult}
use Rattle.std.proofs.lemmas.Nat.{le-div}
use Rattle.std.proofs.lemmas.Slice.{between_to_end}
use Rattle.slices.specs.Bytes.{Bytes, bytes_value}
use Rattle.slices.proofs.Bytes.{all_drop, all_take, part_length, sum_is}
use Rattle.cases.specs.Cases.{array_at, bytes_between, end_of, number_at, numbers_by, part_of, start_of}

zeros : (n : ℕ) → bytes_value (replicate n 0) ≡ 0
unfolding bytes_value
zeros zero = refl
zeros (suc n) = rw (zeros n)

module _ (k : ℕ) (s : List ℕ) (at : ℕ) where
  pub number-there : at + k ≤ length s → number_at k s at ≡ bytes_value (take k (drop at s))
  unfolding number_at
  number-there h = rw (le-leb (at + k) (length s) h)

  pub number_past : length s < at + k → number_at k s at ≡ 0
  unfolding number_at
  number_past h = rw (lt-leb (at + k) (length s) h)

  pub array_there : at + k ≤ length s → array_at k s at ≡ take k (drop at s)
  unfolding array_at
  array_there h = rw (le-leb (at + k) (length s) h)

  pub array_past : length s < at + k → array_at k s at ≡ replicate k 0
  unfolding array_at
  array_past h = rw (lt-leb (at + k) (length s) h)

  -- what `first_chunk` gives of the rest from there on
  pub array_got : {rest bs : List ℕ} → at ≤ length s → rest ≡ slice_range s at (length s) → k ≤ length rest → bs ≡ take k rest → bs ≡ array_at k s at
  array_got {rest} {bs} h e l b =
      let all : rest ≡ drop at s = e ∙ between_to_end s at (length s) (omega arith) in
      b ∙ ap (take k) all ∙ sym (array_there (omega (arith, l, ap length all, length-drop at s)))

  -- the number that the array stands for
  array_value : bytes_value (array_at k s at) ≡ number_at k s at
  unfolding array_at number_at
  array_value = go (leb (at + k) (length s))
    where
      go : (b : Bool) → bytes_value (cond b (take k (drop at s)) (replicate k 0)) ≡ cond b (bytes_value (take k (drop at s))) 0
      go true = refl
      go false = zeros k

  array_length : length (array_at k s at) ≡ k
  array_length = go (dec_le (at + k) (length s))
    where
      go : Dec (at + k ≤ length s) → length (array_at k s at) ≡ k
      go (yes l) = rw (array_there l) (part_length s at k l)
      go (no l) = rw (array_past (omega arith)) (length-replicate k 0)

-- what the library makes of such an array
pub read_is : (k : ℕ) (s : List ℕ) (at : ℕ) {bs : List ℕ} {n : ℕ} → bs ≡ array_at (suc k) s at → n ≡ sum_through (λ i. byte_worth i (get_or bs i 0)) k
    → n ≡ number_at (suc k) s at
read_is k s at {bs} {n} a e =
    let l : length bs ≡ suc k = ap length a ∙ array_length (suc k) s at in
    e ∙ sum_is k bs (omega arith) ∙ ap bytes_value (take_all (suc k) bs (omega arith)) ∙ ap bytes_value a ∙ array_value (suc k) s at

-- the place of the i-th number; one that is past the highest there is, is past the end
pub place_is : (k : ℕ) (s : List ℕ) (i m at : ℕ) (o : Option ℕ) → 0 < k → m ≡ k → SomeIff o (i * m < 2 ^ 64) (i * m) → at ≡ unwrap_or o (length s) → at < 2 ^ 64
    → number_at k s at ≡ number_at k s (k * i)
place_is k s i m at None h e o a l =
    let c : i * m ≡ k * i = ap (λ (n : ℕ). i * n) e ∙ mul_comm i k in
    let big : 2 ^ 64 ≤ k * i = omega (arith, o, c) in
    number_past k s at (omega arith) ∙ sym (number_past k s (k * i) (omega arith))
place_is k s i m at (Some x) h e o a l =
    let same : at ≡ k * i = a ∙ o.1 ∙ ap (λ (n : ℕ). i * n) e ∙ mul_comm i k in
    rw same

pub number-drop : (k : ℕ) (s : List ℕ) (at : ℕ) → 0 < k → number_at k (drop at s) 0 ≡ number_at k s at
number-drop k s at h = go (dec_le (at + k) (length s))
  where
    go : Dec (at + k ≤ length s) → number_at k (drop at s) 0 ≡ number_at k s at
    go (yes l) = number-there k (drop at s) 0 (rw (length-drop, zero-add) (omega arith)) ∙ sym (number-there k s at l)
    go (no l) = number_past k (drop at s) 0 (rw (length-drop, zero-add) (omega arith)) ∙ sym (number_past k s at (omega arith))

module _ (s : List ℕ) (from to : ℕ) where
  pub between_there : to ≤ length s → bytes_between s from to ≡ take (to - from) (drop from s)
  unfolding bytes_between
  between_there h = rw (le-leb to (length s) h)

  pub between_past : length s < to → bytes_between s from to ≡ []
  unfolding bytes_between
  between_past h = rw (lt-leb to (length s) h)

  pub between_none : to ≤ from → bytes_between s from to ≡ []
  between_none h = go (dec_le to (length s))
    where
      go : Dec (to ≤ length s) → bytes_between s from to ≡ []
      go (yes l) = between_there l ∙ (let e : to - from ≡ 0 = omega arith in rw e)
      go (no l) = between_past (omega arith)

  none : (to < from) ⊎ (length s < to) → bytes_between s from to ≡ []
  none (inl h) = between_none (omega arith)
  none (inr h) = between_past h

  -- what `get` gives at a range, and nothing where it gives none
  pub between_got : (r : Option (Bor (List ℕ))) (empty : Bor (List ℕ)) → IsGetRangeResult s from to r → empty.now ≡ []
      → (unwrap_or r empty).now ≡ bytes_between s from to
  between_got None empty h e = e ∙ sym (none h.0)
  between_got (Some x) empty h e = h.0.2 ∙ sym (between_there h.0.1)

-- a part of bytes is bytes
pub part_bytes : (body : List ℕ) (k : ℕ) → Bytes body → Bytes (part_of body k)
unfolding part_of bytes_between
part_bytes body k h = go (leb (end_of body k) (length body))
  where
    go : (b : Bool) → Bytes (cond b (take (end_of body k - start_of body k) (drop (start_of body k) body)) [])
    go true = all_take (λ x. x < 256) (end_of body k - start_of body k) (drop (start_of body k) body) (all_drop (λ x. x < 256) (start_of body k) body h)
    go false = tt

pub start_first : (body : List ℕ) (k : ℕ) → k ≤ 0 → start_of body k ≡ 2 + 4 * get_or body 1 0
unfolding start_of
start_first body zero h = refl
start_first body (suc k) h = absurd (omega arith)

pub start_later : (body : List ℕ) (k : ℕ) → 0 < k → start_of body k ≡ end_of body (k - 1)
unfolding start_of
start_later body zero h = absurd (omega arith)
start_later body (suc k) h = let e : suc k - 1 ≡ k = omega arith in rw e

-- the i-th number of those that stand in a part whole
pub within : (k n i : ℕ) → i < n / k → k * i + k ≤ n
within k n i h =
    let up : k * suc i ≤ k * (n / k) = mul-le-mul_left k (omega arith) in
    omega (arith, up, mul-div-le n k, mul-suc k i)

-- how many numbers of k bytes stand whole in n bytes and have room, where the code divides by m, which is k
module _ (room n m k : ℕ) {count : ℕ} (e : count ≡ min room (n / m)) where
  pub count_is : m ≡ k → count ≡ min room (n / k)
  count_is h = rw h at e

  -- no more than stand there, where m is k or more
  pub count_most : 0 < k → k ≤ m → count ≤ n / k
  count_most h l =
      let up : n / m * k ≤ n / m * m = mul-le-mul_left (n / m) l in
      let most : n / m ≤ n / k = le-div (n / m) n k h (omega (arith, up, div-mul-le_self n m)) in
      omega (arith, e)

-- the numbers of a part
module _ {A : Type 0} (of : ℕ → A) (k : ℕ) where
  pub length_numbers : (n : ℕ) (part : List ℕ) → length (numbers_by of k n part) ≡ n
  unfolding numbers_by
  length_numbers zero part = refl
  length_numbers (suc n) part = ap suc (length_numbers n (drop k part))

  pub numbers_more : (n : ℕ) (part : List ℕ) → numbers_by of k (n + 1) part ≡ numbers_by of k n part ++ (of (bytes_value (take k (drop (k * n) part))) ∷ [])
  unfolding numbers_by
  numbers_more zero part = rw mul-zero
  numbers_more (suc n) part =
      let e : suc n + 1 ≡ suc (n + 1) = omega arith in
      let m : k + k * n ≡ k * suc n = omega (arith, mul-suc k n) in
      rw (e, numbers_more n (drop k part), drop-drop (k * n) k part, m)

  pub take_numbers : (m n : ℕ) (part : List ℕ) → take m (numbers_by of k n part) ≡ numbers_by of k (min n m) part
  unfolding numbers_by
  take_numbers zero n part = rw min-zero
  take_numbers (suc m) zero part = rw zero-min
  take_numbers (suc m) (suc n) part = rw (suc-min-suc, take_numbers m n (drop k part))

  -- a loop that puts them into an array: one more
  pub put_more : (part : List ℕ) (out : List A) (i : ℕ) (v : A) → i < length part / k → i < length out → v ≡ of (number_at k part (k * i))
      → take i out ≡ numbers_by of k i part → take (i + 1) (set out i v) ≡ numbers_by of k (i + 1) part
  put_more part out i v h l e p =
      ap (λ (m : ℕ). take m (set out i v)) (add-one i) ∙ take-suc-set out i v l
      ∙ rw (p, e, number-there k part (k * i) (within k (length part) i h)) (sym (numbers_more i part))

  -- and all that there is room for, before the rest of the array
  pub put_all : (part : List ℕ) (out rest : List A) (n m : ℕ) → n ≡ min m (length part / k) → length out ≡ n → take n out ≡ numbers_by of k n part
      → take n (out ++ rest) ≡ take m (numbers_by of k (length part / k) part)
  put_all part out rest n m e l p =
      let same : n ≡ min (length part / k) m = omega arith in
      take_at out rest n l ∙ sym (take_all n out (omega arith)) ∙ p ∙ ap (λ (j : ℕ). numbers_by of k j part) same ∙ sym (take_numbers m (length part / k) part)
