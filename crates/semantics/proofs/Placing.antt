-- Where Write puts keys: they stand in the order of the first token that names them, each once (`in_order`), none that no token names (`each_named`); each
-- stands whole at the place of every record that names it (`key_stands`), and records name one place exactly where their keys are equal (`one_place`).
use Prim.Native.Nat.{ℕ, zero, suc, ◌+◌, ◌*◌, ◌≤◌, ◌<◌}
use mathlib.Core.Bool.{Bool, true, false, ◌&&◌, cond}
use mathlib.Core.Path.{◌≡◌, refl, sym, ap, ◌∙◌, subst}
use mathlib.Core.Logic.{◌↔◌}
use mathlib.Core.List.{List, [], ◌∷◌, ◌++◌, append_assoc, map}
use native.Mathlib.Decide.{dec_le, ℕ_discrete}
use native.Mathlib.Omega.{arith}
use borrow.Author.Tests.{eq-eqb, eqb-true, ltb-false, ltb-true}
use lib.Dec.{eqb, ltb}
use lib.ListN.{length, get_or, take, drop, length-append, length-map, get_or-append, get_or-map}
use lib.Seq.{take_at, drop_at, drop-drop}
use Rattle.slices.specs.Bytes.{All, over}
use Rattle.semantics.specs.FromTokens.{same_bytes}
use Rattle.semantics.specs.Records.{Records, key_of}
use Rattle.semantics.specs.Write.{Writing, index_of, joined, keys_from, keys_of, leaves, place_in, with_key, with_token}
use Rattle.semantics.specs.Token.{Token, op}
use Rattle.semantics.specs.Meaning.{Sound, SoundAs}
use Rattle.semantics.proofs.Find.{same_bytes_own, same_bytes_true}
use Rattle.semantics.proofs.Tests.{choice}

-- a key is one of some keys
abbrev Among : List ℕ → List (List ℕ) → Type 0
Among key ks = index_of key ks < length ks

pub index_most : (key : List ℕ) (ks : List (List ℕ)) → index_of key ks ≤ length ks
unfolding index_of
index_most key [] = omega arith
index_most key (k ∷ ks) =
    choice (λ n. n ≤ suc (length ks)) (same_bytes k key) 0 (suc (index_of key ks)) (λ e. omega arith) (λ e. omega (arith, index_most key ks))

-- a key that is there stands where it is found
index_is : (key : List ℕ) (ks : List (List ℕ)) → Among key ks → get_or ks (index_of key ks) [] ≡ key
unfolding index_of
index_is key [] h = absurd (omega arith)
index_is key (k ∷ ks) h =
    choice (λ n. n < suc (length ks) → get_or (k ∷ ks) n [] ≡ key) (same_bytes k key) 0 (suc (index_of key ks)) (λ e l. same_bytes_true k key e)
    (λ e l. index_is key ks (omega arith)) h

-- and is found with others behind it too
index_more : (key : List ℕ) (ks more : List (List ℕ)) → Among key ks → index_of key (ks ++ more) ≡ index_of key ks
unfolding index_of
index_more key [] more h = absurd (omega arith)
index_more key (k ∷ ks) more h = go (same_bytes k key) (index_more key ks more) h
  where
    go : (b : Bool) → (Among key ks → index_of key (ks ++ more) ≡ index_of key ks) → cond b 0 (suc (index_of key ks)) < suc (length ks)
        → cond b 0 (suc (index_of key (ks ++ more))) ≡ cond b 0 (suc (index_of key ks))
    go true ih l = refl
    go false ih l = ap suc (ih (omega arith))

among_more : (key : List ℕ) (ks more : List (List ℕ)) → Among key ks → Among key (ks ++ more)
among_more key ks more h = rw (index_more key ks more h) (simp length-append (omega arith))

among_last : (key : List ℕ) (ks : List (List ℕ)) → Among key (ks ++ key ∷ [])
unfolding index_of
among_last key [] = rw (same_bytes_own key) (omega arith)
among_last key (k ∷ ks) =
    choice (λ n. n < suc (length (ks ++ key ∷ []))) (same_bytes k key) 0 (suc (index_of key (ks ++ key ∷ []))) (λ e. omega arith)
    (λ e. omega (arith, among_last key ks))

-- a key more: it is there then, and so are those that were
module _ (ks : List (List ℕ)) (key : List ℕ) where
  -- what holds of the keys as they are, where the key is there, and of one more, where it is not, holds of what is left
  pub with_key_lem : (P : List (List ℕ) → Type 0) → (Among key ks → P ks) → ((Among key ks → ⊥) → P (ks ++ key ∷ [])) → P (with_key ks key)
  unfolding with_key
  with_key_lem P old new =
      choice P (ltb (index_of key ks) (length ks)) ks (ks ++ key ∷ []) (λ e. old (ltb-true (index_of key ks) (length ks) e))
      (λ e. new (λ h. let l = ltb-false (index_of key ks) (length ks) e in omega arith))

  with_own : Among key (with_key ks key)
  with_own = with_key_lem (λ l. Among key l) (λ h. h) (λ h. among_last key ks)

-- what holds of the keys as they are, and with a token's, holds of those that a token leaves
with_token_lem : (P : List (List ℕ) → Type 0) (ks : List (List ℕ)) (t : Token) → P ks → (t.kind ≡ 3 → (Among t.key ks → ⊥) → P (ks ++ t.key ∷ [])) → P (with_token ks t)
with_token_lem P ks t old new =
    choice P (eqb t.kind 3) (with_key ks t.key) ks (λ e. with_key_lem ks t.key P (λ h. old) (new (eqb-true t.kind 3 e))) (λ e. old)

with_kept : (ks : List (List ℕ)) (t : Token) (key : List ℕ) → Among key ks → Among key (with_token ks t)
with_kept ks t key h = with_token_lem (λ l. Among key l) ks t h (λ e n. among_more key ks (t.key ∷ []) h)

pub with_few : (ks : List (List ℕ)) (t : Token) → length (with_token ks t) ≤ suc (length ks)
with_few ks t = with_token_lem (λ l. length l ≤ suc (length ks)) ks t (omega arith) (λ e n. simp length-append (omega arith))

-- ---- the keys that tokens name

keys_kept : (ks : List (List ℕ)) (ts : List Token) (key : List ℕ) → Among key ks → Among key (keys_from ks ts)
unfolding keys_from
keys_kept ks [] key h = h
keys_kept ks (t ∷ ts) key h = keys_kept (with_token ks t) ts key (with_kept ks t key h)

-- a token that has a key names one of them
named : (ks : List (List ℕ)) (ts : List Token) (i : ℕ) → i < length ts → (get_or ts i (op 0)).kind ≡ 3 → Among (get_or ts i (op 0)).key (keys_from ks ts)
unfolding keys_from
named ks [] i h e = absurd (omega arith)
named ks (t ∷ ts) zero h e = rw (eq-eqb t.kind 3 e) (keys_kept (with_key ks t.key) ts t.key (with_own ks t.key))
named ks (t ∷ ts) (suc i) h e = named (with_token ks t) ts i (omega arith) e

-- there are no more keys than tokens
pub keys_few : (ks : List (List ℕ)) (ts : List Token) → length (keys_from ks ts) ≤ length ks + length ts
unfolding keys_from
keys_few ks [] = omega arith
keys_few ks (t ∷ ts) = omega (arith, keys_few (with_token ks t) ts, with_few ks t)

pub keys-append : (ks : List (List ℕ)) (xs ys : List Token) → keys_from ks (xs ++ ys) ≡ keys_from (keys_from ks xs) ys
unfolding keys_from
keys-append ks [] ys = refl
keys-append ks (x ∷ xs) ys = keys-append (with_token ks x) xs ys

-- keys stay where they stand
keys-front : (ks : List (List ℕ)) (ts : List Token) (i : ℕ) → i < length ks → get_or (keys_from ks ts) i [] ≡ get_or ks i []
unfolding keys_from
keys-front ks [] i h = refl
keys-front ks (t ∷ ts) i h =
    with_token_lem (λ l. get_or (keys_from l ts) i [] ≡ get_or ks i []) ks t (keys-front ks ts i h)
    (λ e n. keys-front (ks ++ t.key ∷ []) ts i (simp length-append (omega arith)) ∙ get_or-append ks (t.key ∷ []) [] i h)

-- the first key that comes, where one does
last_new : (ks : List (List ℕ)) (key : List ℕ) (ts : List Token) → get_or (keys_from (ks ++ key ∷ []) ts) (length ks) [] ≡ key
last_new ks key ts = keys-front (ks ++ key ∷ []) ts (length ks) (simp length-append (omega arith)) ∙ last_of ks
  where
    last_of : (l : List (List ℕ)) → get_or (l ++ key ∷ []) (length l) [] ≡ key
    last_of [] = refl
    last_of (x ∷ l) = last_of l

-- those that come are new
module _ (ks : List (List ℕ)) (t : Token) (ts : List Token) (i : ℕ) where
  abbrev after : List (List ℕ)
  after = keys_from (ks ++ t.key ∷ []) ts

  new-first : length ks ≤ i → (Among t.key ks → ⊥) → (length ks < i → i < length after → Among (get_or after i []) (ks ++ t.key ∷ []) → ⊥)
      → i < length after → Among (get_or after i []) ks → ⊥
  new-first h n later l a = go (ℕ_discrete i (length ks))
    where
      go : Dec (i ≡ length ks) → ⊥
      go (yes e) = n (subst (λ (k : List ℕ). Among k ks) (ap (λ (j : ℕ). get_or after j []) e ∙ last_new ks t.key ts) a)
      go (no e) = later (omega arith) l (among_more (get_or after i []) ks (t.key ∷ []) a)

keys-new : (ks : List (List ℕ)) (ts : List Token) (i : ℕ) → length ks ≤ i → i < length (keys_from ks ts) → Among (get_or (keys_from ks ts) i []) ks → ⊥
unfolding keys_from
keys-new ks [] i h = λ l. absurd (omega arith)
keys-new ks (t ∷ ts) i h =
    with_token_lem (λ l. i < length (keys_from l ts) → Among (get_or (keys_from l ts) i []) ks → ⊥) ks t (keys-new ks ts i h)
    (λ e n. new-first ks t ts i h n (λ g. keys-new (ks ++ t.key ∷ []) ts i (simp length-append (omega arith))))

-- ---- "in order of the first token that names them"

-- how many tokens stand before the first that names a key: all of them where none does
abbrev pub names : Token → List ℕ → Bool
names t key = eqb t.kind 3 && same_bytes t.key key

abbrev pub first_naming : List ℕ → List Token → ℕ
first_naming key [] = 0
first_naming key (t ∷ ts) = cond (names t key) 0 (suc (first_naming key ts))

module _ (ks : List (List ℕ)) (t : Token) (ts : List Token) (i : ℕ) where
  abbrev all : List (List ℕ)
  all = keys_from (with_token ks t) ts

  -- a key that comes with the token is named by it
  named_here : length ks ≤ i → i < length (with_token ks t) → names t (get_or all i []) ≡ true
  named_here h =
      with_token_lem (λ l. i < length l → names t (get_or (keys_from l ts) i []) ≡ true) ks t (λ l. absurd (omega arith))
      (λ e n l. let first : i ≡ length ks = omega (arith, l, length-append ks (t.key ∷ [])) in
      rw (first, last_new ks t.key ts, eq-eqb t.kind 3 e, same_bytes_own t.key))

  -- one that comes later is not
  named_later : length (with_token ks t) ≤ i → i < length all → names t (get_or all i []) ≡ false
  named_later h l = go (eqb t.kind 3) refl (same_bytes t.key (get_or all i [])) refl
    where
      go : (a : Bool) → eqb t.kind 3 ≡ a → (b : Bool) → same_bytes t.key (get_or all i []) ≡ b → (a && b) ≡ false
      go true p true q =
          let own : Among t.key (with_token ks t) = rw p (with_own ks t.key) in
          absurd (keys-new (with_token ks t) ts i h l (subst (λ (k : List ℕ). Among k (with_token ks t)) (same_bytes_true t.key (get_or all i []) q) own))
      go true p false q = refl
      go false p b q = refl

-- of the keys behind those that stand already
keys_order : (ks : List (List ℕ)) (ts : List Token) (i j : ℕ) → length ks ≤ i → i < j → j < length (keys_from ks ts)
    → first_naming (get_or (keys_from ks ts) i []) ts < first_naming (get_or (keys_from ks ts) j []) ts
unfolding keys_from
keys_order ks [] i j h l m = absurd (omega arith)
keys_order ks (t ∷ ts) i j h l m = go (dec_le (length (with_token ks t)) i) (λ g. keys_order (with_token ks t) ts i j g l m)
  where
    go : Dec (length (with_token ks t) ≤ i)
        → (length (with_token ks t) ≤ i → first_naming (get_or (all ks t ts i) i []) ts < first_naming (get_or (all ks t ts i) j []) ts)
        → first_naming (get_or (all ks t ts i) i []) (t ∷ ts) < first_naming (get_or (all ks t ts i) j []) (t ∷ ts)
    go (yes g) later = rw (named_later ks t ts i g (omega arith), named_later ks t ts j (omega (arith, with_few ks t)) m) (omega (arith, later g))
    go (no g) later = rw (named_here ks t ts i h (omega arith), named_later ks t ts j (omega (arith, with_few ks t)) m) (omega arith)

keys_named : (ks : List (List ℕ)) (ts : List Token) (i : ℕ) → length ks ≤ i → i < length (keys_from ks ts)
    → first_naming (get_or (keys_from ks ts) i []) ts < length ts
unfolding keys_from
keys_named ks [] i h l = absurd (omega arith)
keys_named ks (t ∷ ts) i h l = go (dec_le (length (with_token ks t)) i) (λ g. keys_named (with_token ks t) ts i g l)
  where
    go : Dec (length (with_token ks t) ≤ i) → (length (with_token ks t) ≤ i → first_naming (get_or (all ks t ts i) i []) ts < length ts)
        → first_naming (get_or (all ks t ts i) i []) (t ∷ ts) < suc (length ts)
    go (yes g) later = rw (named_later ks t ts i g l) (omega (arith, later g))
    go (no g) later = rw (named_here ks t ts i h (omega arith)) (omega arith)

-- R-5: a key stands before another exactly where the first token that names it does; so no key stands twice
pub in_order : (ts : List Token) (i j : ℕ) → i < j → j < length (keys_of ts)
    → first_naming (get_or (keys_of ts) i []) ts < first_naming (get_or (keys_of ts) j []) ts
in_order ts i j = keys_order [] ts i j (omega arith)

pub each_named : (ts : List Token) (i : ℕ) → i < length (keys_of ts) → first_naming (get_or (keys_of ts) i []) ts < length ts
each_named ts i = keys_named [] ts i (omega arith)

-- ---- the key bytes

abbrev pub Wide : List ℕ → Type 0
Wide k = length k ≡ 32

sound_key : (t : Token) → Sound t → t.kind ≡ 3 → Wide t.key
sound_key t s e = (subst (λ (k : ℕ). SoundAs k t.number t.key) e s).1

wide_more : (ks : List (List ℕ)) (key : List ℕ) → All Wide ks → Wide key → All Wide (ks ++ key ∷ [])
wide_more [] key a w = (w, tt)
wide_more (k ∷ ks) key a w = (a.0, wide_more ks key a.1 w)

keys-wide : (ks : List (List ℕ)) (ts : List Token) → All Wide ks → All Sound ts → All Wide (keys_from ks ts)
unfolding keys_from
keys-wide ks [] a s = a
keys-wide ks (t ∷ ts) a s =
    keys-wide (with_token ks t) ts (with_token_lem (λ l. All Wide l) ks t a (λ e n. wide_more ks t.key a (sound_key t s.0 e))) s.1

pub length-joined : (ks : List (List ℕ)) → All Wide ks → length (joined ks) ≡ 32 * length ks
unfolding joined
length-joined [] a = refl
length-joined (k ∷ ks) a = length-append k (joined ks) ∙ omega (arith, a.0, length-joined ks a.1)

joined_at : (ks : List (List ℕ)) → All Wide ks → (i : ℕ) → i < length ks → (rest : List ℕ) → take 32 (drop (32 * i) (joined ks ++ rest)) ≡ get_or ks i []
unfolding joined
joined_at [] a i h rest = absurd (omega arith)
joined_at (k ∷ ks) a zero h rest = rw (append_assoc k (joined ks) rest) (take_at k (joined ks ++ rest) 32 a.0)
joined_at (k ∷ ks) a (suc i) h rest =
    let e : 32 * suc i ≡ 32 + 32 * i = omega arith in
    rw (e, ← drop-drop (32 * i) 32 (k ++ joined ks ++ rest), append_assoc k (joined ks) rest, drop_at k (joined ks ++ rest) 32 a.0)
    (joined_at ks a.1 i (omega arith) rest)

-- ---- what Write leaves of tokens

pub column : (f : Token → ℕ) → f (op 0) ≡ 0 → (ts : List Token) (old : List ℕ) (i : ℕ) → i < length ts → get_or (over (map f ts) old) i 0 ≡ f (get_or ts i (op 0))
column f z ts old i h =
    get_or-append (map f ts) (drop (length (map f ts)) old) 0 i (rw length-map h)
    ∙ ap (get_or (map f ts) i) (sym z) ∙ get_or-map f ts i (op 0)

module _ (ts : List Token) (old : Records) (s : All Sound ts) where
  abbrev ks : List (List ℕ)
  ks = keys_of ts

  abbrev new : Records
  new = leaves (Writing.writes ts) old

  pub form-wide : All Wide ks
  form-wide = keys-wide [] ts tt s

  place_at : (i : ℕ) → i < length ts → (get_or ts i (op 0)).kind ≡ 3 → get_or new.places i 0 ≡ 32 * index_of (get_or ts i (op 0)).key ks
  place_at i h e = column (place_in ks) refl ts old.places i h ∙ rw (eq-eqb (get_or ts i (op 0)).kind 3 e)

  -- "each key stands whole at the place its record names"
  pub key_stands : (i : ℕ) → i < length ts → (get_or ts i (op 0)).kind ≡ 3
      → (get_or new.places i 0 + 32 ≤ length new.keys) × (key_of new i ≡ (get_or ts i (op 0)).key)
  key_stands i h e =
      let key = (get_or ts i (op 0)).key in
      let there = named [] ts i h e in
      rw (place_at i h e) (
        simp length-append (omega (arith, there, length-joined ks form-wide)),
        joined_at ks form-wide (index_of key ks) there (drop (length (joined ks)) old.keys) ∙ index_is key ks there,
      )

  -- R-5: "equal keys are stored once"
  pub one_place : (i j : ℕ) → i < length ts → j < length ts → (get_or ts i (op 0)).kind ≡ 3 → (get_or ts j (op 0)).kind ≡ 3
      → (get_or new.places i 0 ≡ get_or new.places j 0) ↔ ((get_or ts i (op 0)).key ≡ (get_or ts j (op 0)).key)
  one_place i j h l e f = (
    λ p. sym (key_stands i h e).1 ∙ ap (λ (n : ℕ). take 32 (drop n new.keys)) p ∙ (key_stands j l f).1,
    λ k. place_at i h e ∙ ap (λ (key : List ℕ). 32 * index_of key ks) k ∙ sym (place_at j l f),
  )
