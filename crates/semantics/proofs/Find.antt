-- A candidate that is found stands there, and a candidate stands before what follows it.
use Prim.Native.Nat.{ℕ}
use mathlib.Core.Bool.{Bool, true, false, cond, ◌&&◌}
use mathlib.Core.Path.{◌≡◌, refl, sym, ap₂, subst}
use mathlib.Core.List.{List, [], ◌∷◌, ◌++◌}
use native.Mathlib.Omega.{arith}
use borrow.Author.Tests.{eqb-true}
use lib.ListN.{length, drop}
use lib.Seq.{drop-append_seam}
use lib.Dec.{eqb}
use Rattle.semantics.specs.FromTokens.{Found, and_then, find, found, same, same_bytes, starts, nothing}
use Rattle.semantics.specs.Token.{Token}
use Rattle.semantics.proofs.Tests.{and_assoc, and_true, eqb_own}

pub same_bytes_own : (k : List ℕ) → same_bytes k k ≡ true
same_bytes_own [] = refl
same_bytes_own (x ∷ xs) = simp (eqb_own, same_bytes_own xs)

pub same_own : (t : Token) → same t t ≡ true
same_own t = simp (eqb_own, same_bytes_own t.key)

pub same_bytes_true : (j k : List ℕ) → same_bytes j k ≡ true → j ≡ k
same_bytes_true [] [] e = refl
same_bytes_true [] (y ∷ ys) e = cc
same_bytes_true (x ∷ xs) [] e = cc
same_bytes_true (x ∷ xs) (y ∷ ys) e =
    let h = and_true (eqb x y) (same_bytes xs ys) e in
    ap₂ {C = List ℕ} ◌∷◌ (eqb-true x y h.0) (same_bytes_true xs ys h.1)

-- part by part
pub same_bytes-append : (j k l m : List ℕ) → length j ≡ length l → same_bytes (j ++ k) (l ++ m) ≡ (same_bytes j l && same_bytes k m)
same_bytes-append [] k [] m e = refl
same_bytes-append [] k (y ∷ l) m e = absurd (omega arith)
same_bytes-append (x ∷ j) k [] m e = absurd (omega arith)
same_bytes-append (x ∷ j) k (y ∷ l) m e =
    rw (same_bytes-append j k l m (omega arith)) (sym (and_assoc (eqb x y) (same_bytes j l) (same_bytes k m)))

pub same_true : (s t : Token) → same s t ≡ true → s ≡ t
same_true s t e =
    let h = and_true (eqb s.kind t.kind) (eqb s.number t.number && same_bytes s.key t.key) e in
    let k = and_true (eqb s.number t.number) (same_bytes s.key t.key) h.1 in
    let kinds = eqb-true s.kind t.kind h.0 in
    let numbers = eqb-true s.number t.number k.0 in
    let keys = same_bytes_true s.key t.key k.1 in
    λ i. record { kind = kinds i; number = numbers i; key = keys i }

pub starts_own : (p r : List Token) → starts p (p ++ r) ≡ true
starts_own [] r = refl
starts_own (t ∷ ts) r = simp (same_own, starts_own ts r)

pub starts_true : (p ts : List Token) → starts p ts ≡ true → ts ≡ p ++ drop (length p) ts
starts_true [] ts e = refl
starts_true (p ∷ ps) [] e = cc
starts_true (p ∷ ps) (t ∷ ts) e =
    let h = and_true (same p t) (starts ps ts) e in
    let a = same_true p t h.0 in let b = starts_true ps ts h.1 in cc

-- what was read stands at the head of the list, before what is left; `put a r` is a's tokens before r
abbrev pub Reads : {A : Type 0} → (A → List Token → List Token) → Found A → List Token → Type 0
Reads put (found a r) ts = ts ≡ put a r
Reads put nothing ts = Unit {0}

pub reads_then : {A B : Type 0} (put : A → List Token → List Token) (put' : B → List Token → List Token) (g : Found A) (f : A → List Token → Found B) (s ts : List Token)
    → Reads put g s → ((a : A) (r : List Token) → s ≡ put a r → Reads put' (f a r) ts) → Reads put' (and_then g f) ts
reads_then put put' (found a r) f s ts h k = k a r h
reads_then put put' nothing f s ts h k = tt

module _ {H : Type 0} (form : H → List Token) where
  abbrev pub before : H → List Token → List Token
  before h r = form h ++ r

  head-found : (h : H) (ts : List Token) (rest : Found H) (b : Bool) → starts (form h) ts ≡ b → Reads before rest ts
      → Reads before (cond b (found h (drop (length (form h)) ts)) rest) ts
  head-found h ts rest true e k = starts_true (form h) ts e
  head-found h ts rest false e k = k

  pub find_sound : (hs : List H) (ts : List Token) → Reads before (find form hs ts) ts
  find_sound [] ts = tt
  find_sound (h ∷ hs) ts = head-found h ts (find form hs ts) (starts (form h) ts) refl (find_sound hs ts)

  pub find_own : (h : H) (hs : List H) (r : List Token) → find form (h ∷ hs) (form h ++ r) ≡ found h r
  find_own h hs r = simp (starts_own, drop-append_seam)

-- a reader reads each `put a r`, as the a that is picked for it, and nothing else
pub record Reader {A : Type 0} (put : A → List Token → List Token) (pick : A → A) (read : List Token → Found A) : Type 0 where
  pub own : (a : A) (r : List Token) → read (put a r) ≡ found (pick a) r
  pub sound : (ts : List Token) → Reads put (read ts) ts

module _ {A : Type 0} {put : A → List Token → List Token} {pick : A → A} {read : List Token → Found A} (𝓡 : Reader put pick read) where
  pub reader_sound : (ts : List Token) {a : A} {r : List Token} → read ts ≡ found a r → ts ≡ put a r
  reader_sound ts e = subst (λ (g : Found A). Reads put g ts) e (𝓡.sound ts)

  -- what is read is picked
  pub reader_picked : (ts : List Token) {a : A} {r : List Token} → read ts ≡ found a r → pick a ≡ a
  reader_picked ts {a} {r} e = let p = reader_sound ts e in let q = 𝓡.own a r in cc

  -- for all that are put alike, one is picked
  pub reader_one : (a b : A) (r s : List Token) → put a r ≡ put b s → (pick a ≡ pick b) × (r ≡ s)
  reader_one a b r s e = let p = 𝓡.own a r in let q = 𝓡.own b s in (cc, cc)

  -- there is one such reader
  pub reader_same : {other : List Token → Found A} → Reader put pick other → (ts : List Token) → read ts ≡ other ts
  reader_same {other} 𝓢 ts = go (read ts) refl (𝓡.sound ts) (other ts) refl (𝓢.sound ts)
    where
      go : (g : Found A) → read ts ≡ g → Reads put g ts → (h : Found A) → other ts ≡ h → Reads put h ts → g ≡ h
      go (found a r) p u h q v = cc (u, 𝓡.own a r, 𝓢.own a r)
      go nothing p u (found b s) q v = cc (v, 𝓡.own b s, 𝓢.own b s)
      go nothing p u nothing q v = refl
