-- Two keys of code, compared eight bytes at a time.
use Prim.Native.Nat.{ℕ, ◌+◌, ◌-◌, ◌*◌, ◌≤◌, ◌<◌}
use mathlib.Core.Bool.{Bool, true, false, ◌&&◌}
use mathlib.Core.Path.{◌≡◌, refl, sym, ap, ap₂, ◌∙◌}
use mathlib.Core.List.{List, ◌++◌}
use native.Mathlib.Nat.{add-zero}
use native.Mathlib.Omega.{arith}
use lib.ListN.{length, take, drop}
use lib.Seq.{drop-drop, take-add}
use Rattle.slices.specs.Bytes.{Read64, bytes_value}
use Rattle.slices.proofs.Bytes.{part_length}
use Rattle.semantics.specs.FromTokens.{same_bytes}
use Rattle.semantics.proofs.Find.{same_bytes-append, same_bytes_own, same_bytes_true}
use Rattle.keys.specs.Keys.{key_at}

-- what is still to be compared after i words
abbrev pub alike : List ℕ → ℕ → ℕ → ℕ → Bool
alike code a b i = same_bytes (take (32 - 8 * i) (drop (a + 8 * i) code)) (take (32 - 8 * i) (drop (b + 8 * i) code))

module _ (code : List ℕ) (a b : ℕ) where
  pub alike-first : alike code a b 0 ≡ same_bytes (key_at code a) (key_at code b)
  alike-first = rw (add-zero a, add-zero b)

  pub alike_last : (i : ℕ) → 4 ≤ i → alike code a b i ≡ true
  alike_last i h = let e : 32 - 8 * i ≡ 0 = omega arith in rw e

  module _ (i : ℕ) (h : i < 4) (k : a + 32 ≤ length code) (l : b + 32 ≤ length code) where
    abbrev word : ℕ → List ℕ
    word p = take 8 (drop (p + 8 * i) code)

    split : (p : ℕ) → take (32 - 8 * i) (drop (p + 8 * i) code) ≡ word p ++ take (32 - 8 * (i + 1)) (drop (p + 8 * (i + 1)) code)
    split p =
        let e : 32 - 8 * i ≡ 8 + (32 - 8 * (i + 1)) = omega arith in
        let f : p + 8 * (i + 1) ≡ p + 8 * i + 8 = omega arith in
        rw (e, f, ← drop-drop 8 (p + 8 * i) code) (take-add 8 (32 - 8 * (i + 1)) (drop (p + 8 * i) code))

    turn : alike code a b i ≡ (same_bytes (word a) (word b) && alike code a b (i + 1))
    turn =
        ap₂ same_bytes (split a) (split b)
        ∙ same_bytes-append (word a) _ (word b) _ (part_length code (a + 8 * i) 8 (omega arith) ∙ sym (part_length code (b + 8 * i) 8 (omega arith)))

    module _ (x y : ℕ) (p : Read64 code (a + 8 * i) x) (q : Read64 code (b + 8 * i) y) where
      pub alike_not : (x ≡ y → ⊥) → alike code a b i ≡ false
      alike_not n = turn ∙ go (same_bytes (word a) (word b)) refl
        where
          go : (t : Bool) → same_bytes (word a) (word b) ≡ t → (t && alike code a b (i + 1)) ≡ false
          go true e = absurd (n (p.value ∙ ap bytes_value (same_bytes_true (word a) (word b) e) ∙ sym q.value))
          go false e = refl

      pub alike_so_far : x ≡ y → alike code a b i ≡ alike code a b (i + 1)
      alike_so_far e =
          let same : word a ≡ word b = sym p.bytes ∙ rw e q.bytes in
          turn ∙ rw (same, same_bytes_own (word b))
