-- Bytes put into a buffer: one run after the other (`number_put`, `oracle-put`).
use Prim.Native.Nat.{ℕ, suc, ◌+◌, ◌-◌, ◌≤◌, ◌<◌}
use mathlib.Core.Path.{◌≡◌, sym, ap, ◌∙◌}
use mathlib.Core.List.{List, [], ◌∷◌, ◌++◌, append_assoc}
use native.Mathlib.Omega.{arith}
use lib.ListN.{length, take, drop, set, length-append, length-drop}
use lib.Seq.{drop_at, drop-drop, length-take-le, paste, set_split, take_at}
use Rattle.slices.specs.Bytes.{little_endian}
use Rattle.slices.proofs.Bytes.{length-little_endian}
use Rattle.emission.specs.Pieces.{put}

-- bytes written from a place on
abbrev wrote : List ℕ → ℕ → List ℕ → List ℕ
wrote d at bytes = take at d ++ (bytes ++ drop (at + length bytes) d)

wrote-put : (d : List ℕ) (at end : ℕ) (bytes : List ℕ) → at + length bytes ≡ end → wrote d at bytes ≡ put d end bytes
wrote-put d at end bytes e =
    let low : at ≡ end - length bytes = omega arith in
    ap (λ (k : ℕ). take at d ++ (bytes ++ drop k d)) e ∙ ap (λ (k : ℕ). take k d ++ (bytes ++ drop end d)) low

wrote-wrote : (d : List ℕ) (at : ℕ) (a b : List ℕ) → at + length a ≤ length d → wrote (wrote d at a) (at + length a) b ≡ wrote d at (a ++ b)
wrote-wrote d at a b h =
    let front : length (take at d ++ a) ≡ at + length a = length-append (take at d) a ∙ ap (λ (n : ℕ). n + length a) (length-take-le at d (omega arith)) in
    let rest : List ℕ = drop (at + length a) d in
    let first : take (at + length a) (wrote d at a) ≡ take at d ++ a =
    ap (take (at + length a)) (sym (append_assoc (take at d) a rest)) ∙ take_at (take at d ++ a) rest (at + length a) front in
    let after : drop (at + length a) (wrote d at a) ≡ rest =
    ap (drop (at + length a)) (sym (append_assoc (take at d) a rest)) ∙ drop_at (take at d ++ a) rest (at + length a) front in
    let last : drop (at + length a + length b) (wrote d at a) ≡ drop (at + length (a ++ b)) d =
    sym (drop-drop (length b) (at + length a) (wrote d at a)) ∙ ap (drop (length b)) after ∙ drop-drop (length b) (at + length a) d
    ∙ ap (λ (k : ℕ). drop k d) (more (length-append a b)) in
    ap (λ (l : List ℕ). l ++ (b ++ drop (at + length a + length b) (wrote d at a))) first ∙ ap (λ (l : List ℕ). (take at d ++ a) ++ (b ++ l)) last ∙ simp append_assoc
  where
    more : length (a ++ b) ≡ length a + length b → at + length a + length b ≡ at + length (a ++ b)
    more e = omega arith

set-wrote : (d : List ℕ) (at b : ℕ) → at < length d → set d at b ≡ wrote d at (b ∷ [])
set-wrote d at b h = set_split d at b h ∙ ap (λ (k : ℕ). take at d ++ (b ∷ [] ++ drop k d)) one
  where
    one : suc at ≡ at + 1
    one = omega arith

number-wrote : (d : List ℕ) (at n : ℕ) → take at d ++ little_endian 8 n ++ drop (at + 8) d ≡ wrote d at (little_endian 8 n)
number-wrote d at n =
    append_assoc (take at d) (little_endian 8 n) (drop (at + 8) d)
    ∙ ap (λ (k : ℕ). take at d ++ (little_endian 8 n ++ drop (at + k) d)) (sym (length-little_endian 8 n))

key-wrote : (d : List ℕ) (at : ℕ) (key : List ℕ) → 32 ≤ length key → paste d at key 32 ≡ wrote d at (take 32 key)
key-wrote d at key h =
    append_assoc (take at d) (take 32 key) (drop (at + 32) d)
    ∙ ap (λ (k : ℕ). take at d ++ (take 32 key ++ drop (at + k) d)) (sym (length-take-le 32 key h))

-- a command, a key and a time behind it
pub oracle-put : (d d₁ d₂ d₃ : List ℕ) (at c : ℕ) (keys : List ℕ) (place time : ℕ) → 41 ≤ at → at ≤ length d → place + 32 ≤ length keys → d₁ ≡ set d (at - 41) c
    → d₂ ≡ paste d₁ (at - 40) (drop place keys) 32 → d₃ ≡ take (at - 8) d₂ ++ little_endian 8 time ++ drop (at - 8 + 8) d₂
    → d₃ ≡ put d at (c ∷ take 32 (drop place keys) ++ little_endian 8 time)
oracle-put d d₁ d₂ d₃ at c keys place time low high whole e₁ e₂ e₃ =
    let key : List ℕ = take 32 (drop place keys) in
    let there : 32 ≤ length (drop place keys) = subst_le in
    let size : length key ≡ 32 = length-take-le 32 (drop place keys) there in
    let next : at - 40 ≡ at - 41 + 1 = omega arith in
    let last : at - 8 ≡ at - 41 + length (c ∷ key) = omega arith in
    let two : d₂ ≡ wrote d (at - 41) (c ∷ key) =
    e₂ ∙ key-wrote d₁ (at - 40) (drop place keys) there ∙ ap (λ (k : ℕ). wrote d₁ k key) next
    ∙ ap (λ (l : List ℕ). wrote l (at - 41 + 1) key) (e₁ ∙ set-wrote d (at - 41) c (omega arith)) ∙ wrote-wrote d (at - 41) (c ∷ []) key (omega arith) in
    e₃ ∙ number-wrote d₂ (at - 8) time ∙ ap (λ (k : ℕ). wrote d₂ k (little_endian 8 time)) last
    ∙ ap (λ (l : List ℕ). wrote l (at - 41 + length (c ∷ key)) (little_endian 8 time)) two
    ∙ wrote-wrote d (at - 41) (c ∷ key) (little_endian 8 time) (omega arith)
    ∙ wrote-put d (at - 41) at (c ∷ key ++ little_endian 8 time) (omega (arith, length-little_endian 8 time, length-append (c ∷ key) (little_endian 8 time)))
  where
    subst_le : 32 ≤ length (drop place keys)
    subst_le = rw length-drop (omega arith)
