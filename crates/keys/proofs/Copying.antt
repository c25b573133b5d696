-- The keys at some positions, copied one after the other.
use Prim.Native.Nat.{ℕ, ◌+◌, ◌*◌, ◌≤◌, ◌<◌}
use mathlib.Core.Path.{◌≡◌, sym, ap, ap₂, ◌∙◌}
use mathlib.Core.List.{List, [], ◌∷◌, ◌++◌, map, map-append, append_assoc, append-nil}
use native.Mathlib.Numerals.{add-one}
use native.Mathlib.Omega.{arith}
use lib.ListN.{length, get_or, take, drop, length-append, length-map}
use lib.Seq.{drop-drop, length-take-le, paste, take_at, take-suc}
use Rattle.slices.specs.Bytes.{All, over}
use Rattle.slices.proofs.Bytes.{all_take, part_length}
use Rattle.semantics.specs.Write.{joined}
use Rattle.semantics.proofs.Over.{rest_of}
use Rattle.semantics.proofs.Placing.{Wide, length-joined}
use Rattle.keys.specs.Keys.{Inside, key_at, keys_at}
use Rattle.keys.proofs.Noting.{position_inside}

joined_snoc : (ks : List (List ℕ)) (k : List ℕ) → joined (ks ++ k ∷ []) ≡ joined ks ++ k
unfolding joined
joined_snoc [] k = append-nil k
joined_snoc (x ∷ ks) k = rw (joined_snoc ks k) (sym (append_assoc x (joined ks) k))

module _ (code positions : List ℕ) (inside : Inside code positions) where
  wide : (ps : List ℕ) → All (λ p. p + 32 ≤ length code) ps → All Wide (map (key_at code) ps)
  wide [] all = tt
  wide (p ∷ ps) all = (part_length code p 32 all.0, wide ps all.1)

  pub joined-front : (j : ℕ) → j ≤ length positions → length (joined (keys_at code (take j positions))) ≡ 32 * j
  joined-front j h =
      length-joined (keys_at code (take j positions)) (wide (take j positions) (all_take (λ p. p + 32 ≤ length code) j positions inside))
      ∙ ap (λ (m : ℕ). 32 * m) (length-map (take j positions) (key_at code) ∙ length-take-le j positions h)

  pub copied : (old now : List ℕ) (j : ℕ) → j < length positions → now ≡ over (joined (keys_at code (take j positions))) old
      → paste now (32 * j) (drop (get_or positions j 0) code) 32 ≡ over (joined (keys_at code (take (j + 1) positions))) old
  copied old now j h e =
      let p = get_or positions j 0 in
      let k = key_at code p in
      let ks = keys_at code (take j positions) in
      let ws = joined ks in
      let l : length ws ≡ 32 * j = joined-front j (omega arith) in
      let one : take (j + 1) positions ≡ take j positions ++ p ∷ [] = rw (add-one j) (take-suc positions j 0 h) in
      let t : joined (keys_at code (take (j + 1) positions)) ≡ ws ++ k =
      ap (λ (ps : List ℕ). joined (map (key_at code) ps)) one ∙ ap joined (map-append (key_at code) (take j positions) (p ∷ [])) ∙ joined_snoc ks k in
      let front : take (32 * j) now ≡ ws = ap (take (32 * j)) e ∙ take_at ws (drop (length ws) old) (32 * j) l in
      let back : drop (32 * j + 32) now ≡ drop (32 * j + 32) old =
      sym (drop-drop 32 (32 * j) now) ∙ ap (λ (x : List ℕ). drop 32 (drop (32 * j) x)) e ∙ ap (drop 32) (rest_of ws old (32 * j) l) ∙ drop-drop 32 (32 * j) old in
      let size : length (ws ++ k) ≡ 32 * j + 32 =
      length-append ws k ∙ omega (arith, l, part_length code p 32 (position_inside code positions inside j h)) in
      ap₂ ◌++◌ (ap (λ (x : List ℕ). x ++ k) front) back ∙ ap (λ (m : ℕ). ws ++ k ++ drop m old) (sym size) ∙ ap (λ (x : List ℕ). over x old) (sym t)
