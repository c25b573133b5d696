-- Token records: the tokens that they are; sound records are sound tokens (`tokens_sound`); and records that Write wrote are the tokens that it
-- wrote (`written-tokens`).
use Prim.Native.Nat.{ℕ, zero, suc, ◌+◌, ◌≤◌, ◌<◌, ◌^◌}
use mathlib.Core.Bool.{Bool, true, false, ◌&&◌, ◌||◌, not, cond}
use mathlib.Core.Option.{Option, none, some}
use mathlib.Core.Path.{◌≡◌, refl, ap, ◌∙◌, subst⁻¹}
use mathlib.Core.List.{List}
use native.Mathlib.Nat.{add-zero, add-suc, suc-add, zero-add}
use native.Mathlib.Omega.{arith}
use borrow.Author.Tests.{leb-true, ltb-true, ne_eqb}
use lib.ListN.{length, get_or, take, drop, length-take, length-drop}
use lib.Dec.{eqb, leb, ltb}
use Rattle.slices.specs.Bytes.{All, Bytes}
use Rattle.slices.proofs.Bytes.{all_drop, all_get_d, all_take}
use Rattle.semantics.specs.Records.{Records, key_of, sound_at, token_at, token_of, tokens, tokens_from, unsound, unsound_from}
use Rattle.semantics.specs.Token.{Token, op}
use Rattle.semantics.specs.Write.{Writing, leaves}
use Rattle.semantics.proofs.Placing.{column, key_stands}
use Rattle.semantics.proofs.Tests.{and_true}
use Rattle.semantics.specs.Meaning.{Sound, SoundAs}

length_from : (r : Records) (i k : ℕ) → length (tokens_from r i k) ≡ k
unfolding tokens_from
length_from r i zero = refl
length_from r i (suc k) = ap suc (length_from r (suc i) k)

pub length-tokens : (r : Records) → length (tokens r) ≡ length r.kinds
length-tokens r = length_from r 0 (length r.kinds)

get_d_from : (r : Records) (i k j : ℕ) (d : Token) → j < k → get_or (tokens_from r i k) j d ≡ token_at r (i + j)
unfolding tokens_from
get_d_from r i zero j d h = absurd (omega arith)
get_d_from r i (suc k) zero d h = rw add-zero
get_d_from r i (suc k) (suc j) d h = rw (add-suc i j, ← suc-add i j) (get_d_from r (suc i) k j d (omega arith))

pub get_d_tokens : (r : Records) (i : ℕ) (d : Token) → i < length r.kinds → get_or (tokens r) i d ≡ token_at r i
get_d_tokens r i d h = rw zero-add at (get_d_from r 0 (length r.kinds) i d h)

-- a kind that carries nothing
other : (k number : ℕ) (key : List ℕ) → let kind = suc (suc (suc (suc k))) in token_of kind number key ≡ op kind
other k number key =
    let kind = suc (suc (suc (suc k))) in
    rw (ne_eqb kind 1 (λ e. omega arith), ne_eqb kind 2 (λ e. omega arith), ne_eqb kind 3 (λ e. omega arith))

-- a sound record is a sound token
module _ (keys : List ℕ) (bytes : Bytes keys) where
  sound_token_lem : (kind number place : ℕ) → number < 2 ^ 64 → kind ≤ 35 → (not (eqb kind 1) || ltb number (2 ^ 32)) ≡ true
      → (not (eqb kind 3) || leb (place + 32) (length keys)) ≡ true → Sound (token_of kind number (take 32 (drop place keys)))
  sound_token_lem zero number place wide k n p = (refl, refl)
  sound_token_lem (suc zero) number place wide k n p = (ltb-true number (2 ^ 32) n, refl)
  sound_token_lem (suc (suc zero)) number place wide k n p = (wide, refl)
  sound_token_lem (suc (suc (suc zero))) number place wide k n p =
      let h = leb-true (place + 32) (length keys) p in (
        refl,
        simp (length-take, length-drop) (omega arith),
        all_take (λ x. x < 256) 32 (drop place keys) (all_drop (λ x. x < 256) place keys bytes),
      )
  sound_token_lem (suc (suc (suc (suc m)))) number place wide k n p = subst⁻¹ Sound (other m number (take 32 (drop place keys))) (k, refl, refl)

module _ (r : Records) (bytes : Bytes r.keys) (wide : All (λ n. n < 2 ^ 64) r.numbers) where
  sound_at_lem : (i : ℕ) → sound_at r i ≡ true → Sound (token_at r i)
  sound_at_lem i e =
      let kind = get_or r.kinds i 0 in
      let number = get_or r.numbers i 0 in
      let there = ltb i (length r.numbers) && ltb i (length r.places) in
      let p = and_true (there && leb kind 35 && (not (eqb kind 1) || ltb number (2 ^ 32))) (not (eqb kind 3) || leb (get_or r.places i 0 + 32) (length r.keys)) e in
      let n = and_true (there && leb kind 35) (not (eqb kind 1) || ltb number (2 ^ 32)) p.0 in
      let k = and_true there (leb kind 35) n.0 in
      sound_token_lem r.keys bytes kind number (get_or r.places i 0) (all_get_d (λ m. m < 2 ^ 64) r.numbers i 0 (omega arith) wide) (leb-true kind 35 k.1) n.1 p.1

  first_sound : (b : Bool) (x : Option ℕ) (i : ℕ) → cond b x (some i) ≡ none → (b ≡ true) × (x ≡ none)
  first_sound true x i e = (refl, e)
  first_sound false x i e = (cc, cc)

  sound_from : (i k : ℕ) → unsound_from r i k ≡ none → All Sound (tokens_from r i k)
  unfolding tokens_from unsound_from
  sound_from i zero e = tt
  sound_from i (suc k) e =
      let h = first_sound (sound_at r i) (unsound_from r (suc i) k) i e in (sound_at_lem i h.0, sound_from (suc i) k h.1)

  -- where no record is unsound, the tokens are sound
  pub tokens_sound : unsound r ≡ none → All Sound (tokens r)
  tokens_sound e = sound_from 0 (length r.kinds) e

-- a sound token, from its kind, its number, and the key at its place
again : (kind number : ℕ) (key k : List ℕ) → SoundAs kind number key → (kind ≡ 3 → k ≡ key)
    → token_of kind number k ≡ record { kind = kind; number = number; key = key }
again zero number key k s w = rw (s.0, s.1)
again (suc zero) number key k s w = rw s.1
again (suc (suc zero)) number key k s w = rw s.1
again (suc (suc (suc zero))) number key k s w = rw (s.0, w refl)
again (suc (suc (suc (suc m)))) number key k s w = other m number k ∙ rw (s.1, s.2)

pub written-tokens : (ts : List Token) (old : Records) → All Sound ts → (i : ℕ) → i < length ts
    → token_at (leaves (Writing.writes ts) old) i ≡ get_or ts i (op 0)
written-tokens ts old s i h =
    let t = get_or ts i (op 0) in
    let new = leaves (Writing.writes ts) old in
    ap (λ (k : ℕ). token_of k (get_or new.numbers i 0) (key_of new i)) (column (λ x. x.kind) refl ts old.kinds i h)
    ∙ ap (λ (m : ℕ). token_of t.kind m (key_of new i)) (column (λ x. x.number) refl ts old.numbers i h)
    ∙ again t.kind t.number t.key (key_of new i) (all_get_d Sound ts i (op 0) (refl, refl) s) (λ e. (key_stands ts old s i h e).1)
