-- The bytes of a push in a buffer: a direct push, its length and then its bytes.
use Prim.Native.Nat.{ℕ, zero, suc, ◌+◌, ◌-◌, ◌/◌, ◌%◌, ◌<◌, ◌≤◌}
use mathlib.Core.Path.{◌≡◌, refl, sym, ap, ◌∙◌}
use mathlib.Core.List.{List, [], ◌∷◌, ◌++◌, append-nil}
use native.Mathlib.Omega.{arith}
use mathlib.Core.Bool.{Bool, true, false}
use borrow.Author.Tests.{eqb-false, eqb-true, le-leb, leb-false, leb-true, lt-leb}
use lib.Dec.{eqb, leb}
use lib.ListN.{length, drop, get_or, set, take}
use lib.Seq.{length-take-le, take-suc}
use native.Mathlib.Numerals.{add-one}
use Rattle.slices.proofs.Front.{front-set}
use Rattle.slices.specs.Bytes.{Front, little_endian}
use Rattle.semantics.specs.Operations.{num}
use Rattle.script.specs.Script.{number_width, push_int, script}
use Rattle.script.proofs.Numbers.{width_most}

-- one byte more of a row
pub front-next : {now xs : List ℕ} (row : List ℕ) (j : ℕ) → j < length row → j < length xs → Front now xs (take j row) j
    → Front (set now j (get_or row j 0)) xs (take (j + 1) row) (j + 1)
front-next row j inside room f = rw (add-one j, take-suc row j 0 inside) (rw (add-one j) at (front-set (get_or row j 0) f room))

-- the length b of k bytes and the bytes r
pub front_push : (b k : ℕ) (r xs new : List ℕ) → length r ≡ k → 1 ≤ length xs → new ≡ take 1 (set xs 0 b) ++ r ++ drop (suc k) (set xs 0 b)
    → Front new xs (b ∷ r ++ []) (suc k)
front_push b k r [] new l h e = absurd (omega arith)
front_push b k r (x ∷ xs) new l h e =
    let whole : b ∷ r ++ [] ≡ b ∷ r = ap (λ (bs : List ℕ). b ∷ bs) (append-nil r) in
    rw whole (record { is = e ∙ ap (λ (n : ℕ). b ∷ r ++ drop n xs) (sym l); long = ap suc l })

-- ---- numbers

pub zero_int : script (num 0 ∷ []) ≡ 0 ∷ []
unfolding script push_int number_width little_endian
zero_int = refl

-- 1 to 16 have opcodes of their own
pub small_int : (n : ℕ) → 1 ≤ n → n ≤ 16 → script (num n ∷ []) ≡ (n - 1 + 0x51) ∷ []
unfolding script push_int
small_int n l h = let e : 0x50 + n ≡ n - 1 + 0x51 = omega arith in rw (le-leb 1 n l, le-leb n 16 h, e)

-- a number's bytes as they are computed, of which its width tells how many count
abbrev pub number_bytes : ℕ → List ℕ
number_bytes n = n % 256 ∷ n / 256 % 256 ∷ n / 256 / 256 % 256 ∷ n / 256 / 256 / 256 % 256 ∷ n / 256 / 256 / 256 / 256 % 256 ∷ []

first-bytes : (w n : ℕ) → w ≤ 5 → take w (number_bytes n) ≡ little_endian w n
unfolding little_endian
first-bytes zero n h = refl
first-bytes (suc zero) n h = refl
first-bytes (suc (suc zero)) n h = refl
first-bytes (suc (suc (suc zero))) n h = refl
first-bytes (suc (suc (suc (suc zero)))) n h = refl
first-bytes (suc (suc (suc (suc (suc zero))))) n h = refl
first-bytes (suc (suc (suc (suc (suc (suc w)))))) n h = absurd (omega arith)

-- and larger ones are pushed
pub large_int : (n w : ℕ) → 16 < n → w ≡ number_width n → take (1 + w) (w ∷ number_bytes n) ≡ script (num n ∷ [])
unfolding script push_int
large_int n w h e =
    let s : 1 + number_width n ≡ suc (number_width n) = omega arith in
    rw (e, s, le-leb 1 n (omega arith), lt-leb n 16 h, append-nil (little_endian (number_width n) n)) (ap (λ (bs : List ℕ). number_width n ∷ bs) (first-bytes (number_width n) n (width_most n)))

-- how many bytes that is
pub small_length : (n : ℕ) → n ≤ 16 → length (script (num n ∷ [])) ≡ 1
small_length n h = go (eqb n 0) refl
  where
    go : (b : Bool) → eqb n 0 ≡ b → length (script (num n ∷ [])) ≡ 1
    go true q = rw (eqb-true n 0 q, zero_int)
    go false q = rw (small_int n (omega (arith, eqb-false n 0 q)) h)

pub large_length : (n w : ℕ) → 16 < n → w ≡ number_width n → length (take (1 + w) (w ∷ number_bytes n)) ≡ 1 + w
large_length n w h e = length-take-le (1 + w) (w ∷ number_bytes n) (omega (arith, e, width_most n))

pub int_few : (n : ℕ) → length (script (num n ∷ [])) ≤ 6
int_few n = go (leb n 16) refl
  where
    go : (b : Bool) → leb n 16 ≡ b → length (script (num n ∷ [])) ≤ 6
    go true q = omega (arith, small_length n (leb-true n 16 q))
    go false q =
        let l : 16 < n = omega (arith, leb-false n 16 q) in
        omega (arith, ap length (large_int n (number_width n) l refl), large_length n (number_width n) l refl, width_most n)
