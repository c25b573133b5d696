-- R-5, of two calls: conditions with one form are written alike byte for byte, into the same buffers (`one_form`) and, so far as is reported, into any (`one_file`);
-- and Decode gives one answer for all records of one token list, however their keys lie (`same_tokens`).
use Rattle.std.proofs.Common.{Ok}
use Prim.Native.Nat.{ℕ, zero, suc, ◌+◌, ◌*◌, ◌≤◌, ◌<◌, ◌^◌}
use mathlib.Core.Bool.{Bool, true, false, ◌&&◌, ◌||◌, cond, not}
use mathlib.Core.Option.{some}
use mathlib.Core.Path.{◌≡◌, refl, sym, ap, subst, ◌∙◌}
use mathlib.Core.List.{List, [], map}
use native.Mathlib.Nat.{add-suc, add-zero, suc-add, zero-add}
use native.Mathlib.Decide.{dec_le}
use native.Mathlib.Omega.{arith}
use borrow.Author.Tests.{eq-eqb, le-leb, lt-leb, lt-ltb, ne_eqb}
use lib.Dec.{eqb, leb, ltb}
use lib.ListN.{length, get_or, take, drop, length-drop, length-map, length-take}
use lib.Seq.{take_at}
use Rattle.slices.specs.Bytes.{Bytes, over}
use Rattle.semantics.specs.Check.{Condition, condition}
use Rattle.semantics.specs.Code.{max_tokens}
use Rattle.semantics.specs.Decode.{Reading, decoded, decoded_as, reading_sound}
use Rattle.semantics.specs.Records.{Records, key_of, sound_at, token_at, tokens, unsound, unsound_from}
use Rattle.semantics.specs.Refusals.{Refusal}
use Rattle.semantics.specs.Token.{Token, form, op}
use Rattle.semantics.specs.Trees.{Arith}
use Rattle.semantics.specs.Write.{Writing, joined, keys_of, leaves, place_in, writing, writing_form, written, wrote}
use Rattle.semantics.proofs.Forms.{form_sound}
use Rattle.semantics.proofs.Passing.{passing}
use Rattle.semantics.proofs.Placing.{form-wide, length-joined}
use Rattle.semantics.proofs.Records.{get_d_tokens, length-tokens}
use Rattle.semantics.proofs.RoundTrip.{write_writes}

-- "Two units wrote the same tokens"
pub one_form : (b c : List ℕ) (x y : Arith) → condition b ≡ Condition.passed x → condition c ≡ Condition.passed y → form x ≡ form y
    → (old : Records) → wrote b old ≡ wrote c old
unfolding wrote writing
one_form b c x y e f same old =
    rw (e, f) (ap (λ (ts : List Token). record { answer = written (writing_form ts old); records = leaves (writing_form ts old) old }) same)

-- what a call reports of what it left: so many records and key bytes; a file has these
abbrev pub reported : ℕ → ℕ → Records → Records
reported n k r = record { kinds = take n r.kinds; numbers = take n r.numbers; places = take n r.places; keys = take k r.keys }

-- it is the form's alone
abbrev pub file_of : List Token → Records
file_of ts = record { kinds = map (λ t. t.kind) ts; numbers = map (λ t. t.number) ts; places = map (place_in (keys_of ts)) ts; keys = joined (keys_of ts) }

module _ (b : List ℕ) (bytes : Bytes b) (a : Arith) (e : condition b ≡ Condition.passed a) (old : Records) (n k : ℕ)
    (told : (wrote b old).answer ≡ Ok (record { records = n; key_bytes = k })) where
  abbrev ts : List Token
  ts = form a

  front : (f : Token → ℕ) (x : List ℕ) → take n (over (map f ts) x) ≡ map f ts
  front f x = take_at (map f ts) (drop (length (map f ts)) x) n (simp length-map (sym (write_writes b a old n k e told).2))

  key-bytes : (x : List ℕ) → take k (over (joined (keys_of ts)) x) ≡ joined (keys_of ts)
  key-bytes x =
      let w = write_writes b a old n k e told in
      let wide = form-wide ts old (form_sound a (passing b bytes a e).encodable w.1) in
      take_at (joined (keys_of ts)) (drop (length (joined (keys_of ts))) x) k (length-joined (keys_of ts) wide ∙ sym w.3)

  pub file_is : reported n k (wrote b old).records ≡ file_of ts
  unfolding wrote
  file_is =
      ap (λ (w : Writing). reported n k (leaves w old)) (write_writes b a old n k e told).0
      ∙ rw (front (λ t. t.kind) old.kinds, front (λ t. t.number) old.numbers, front (place_in (keys_of ts)) old.places, key-bytes old.keys)

pub one_file : (b c : List ℕ) → Bytes b → Bytes c → (x y : Arith) → condition b ≡ Condition.passed x → condition c ≡ Condition.passed y → form x ≡ form y
    → (old other : Records) (n k m l : ℕ) → (wrote b old).answer ≡ Ok (record { records = n; key_bytes = k }) → (wrote c other).answer ≡ Ok (record { records = m; key_bytes = l })
    → (n ≡ m) × (k ≡ l) × (reported n k (wrote b old).records ≡ reported m l (wrote c other).records)
one_file b c p q x y e f same old other n k m l told heard =
    let w = write_writes b x old n k e told in
    let v = write_writes c y other m l f heard in (
      w.2 ∙ ap length same ∙ sym v.2,
      w.3 ∙ ap (λ (ts : List Token). 32 * length (keys_of ts)) same ∙ sym v.3,
      file_is b p x e old n k told ∙ ap file_of same ∙ sym (file_is c q y f other m l heard),
    )

-- each record has a number and a place
pub record Whole (r : Records) : Type 0 where
  pub numbers : length r.kinds ≤ length r.numbers
  pub places : length r.kinds ≤ length r.places

-- a token by itself
abbrev sound_token : Token → Bool
sound_token t = leb t.kind 35 && (not (eqb t.kind 1) || ltb t.number (2 ^ 32)) && (not (eqb t.kind 3) || eqb (length t.key) 32)

-- 32 bytes are there exactly where they are had
key-there : (place : ℕ) (keys : List ℕ) → leb (place + 32) (length keys) ≡ eqb (length (take 32 (drop place keys))) 32
key-there place keys = go (dec_le (place + 32) (length keys))
  where
    go : Dec (place + 32 ≤ length keys) → leb (place + 32) (length keys) ≡ eqb (length (take 32 (drop place keys))) 32
    go (yes h) =
        rw (le-leb (place + 32) (length keys) h, eq-eqb (length (take 32 (drop place keys))) 32 (omega (arith, length-take 32 (drop place keys), length-drop place keys)))
    go (no h) =
        rw (
          lt-leb (place + 32) (length keys) (omega arith),
          ne_eqb (length (take 32 (drop place keys))) 32 (λ e. omega (arith, length-take 32 (drop place keys), length-drop place keys)),
        )

-- whether a record is sound is seen by its token
sound_by_token : (r : Records) → Whole r → (i : ℕ) → i < length r.kinds → sound_at r i ≡ sound_token (token_at r i)
sound_by_token r w i h =
    let number = get_or r.numbers i 0 in
    let place = get_or r.places i 0 in
    rw (lt-ltb i (length r.numbers) (omega (arith, w.numbers)), lt-ltb i (length r.places) (omega (arith, w.places)), key-there place r.keys)
    (go (leb (get_or r.kinds i 0) 35) (eqb (get_or r.kinds i 0) 1) (eqb (get_or r.kinds i 0) 2) (eqb (get_or r.kinds i 0) 3))
  where
    go : (most num bytes8 bytes32 : Bool)
        → (most && (not num || ltb (get_or r.numbers i 0) (2 ^ 32)) && (not bytes32 || eqb (length (key_of r i)) 32))
        ≡ (most && (not num || ltb (cond (num || bytes8) (get_or r.numbers i 0) 0) (2 ^ 32)) && (not bytes32 || eqb (length (cond bytes32 (key_of r i) [])) 32))
    go most true bytes8 true = refl
    go most true bytes8 false = refl
    go most false bytes8 true = refl
    go most false bytes8 false = refl

unsound-alike : (q s : Records) (i k : ℕ) → ((j : ℕ) → j < k → sound_at q (i + j) ≡ sound_at s (i + j)) → unsound_from q i k ≡ unsound_from s i k
unfolding unsound_from
unsound-alike q s i zero h = refl
unsound-alike q s i (suc k) h =
    let first : sound_at q i ≡ sound_at s i = rw add-zero at (h 0 (omega arith)) in
    let rest = unsound-alike q s (suc i) k
    (λ j g. subst (λ (n : ℕ). sound_at q n ≡ sound_at s n) (add-suc i j ∙ sym (suc-add i j)) (h (suc j) (omega arith))) in
    λ n. cond (first n) (rest n) (some i)

-- "Decoding must give the same condition from old and new key buffers"
pub same_tokens : (q s : Records) → Whole q → Whole s → tokens q ≡ tokens s → (old : List ℕ) → decoded q old ≡ decoded s old
unfolding decoded
same_tokens q s v w e old =
    λ i. decoded_as old (cond (leb (count i) max_tokens) (reading_sound (unsound_one i) (e i) old) (Reading.refused Refusal.TooManyRecords))
  where
    count : length q.kinds ≡ length s.kinds
    count = sym (length-tokens q) ∙ ap length e ∙ length-tokens s

    one_token : (i : ℕ) → i < length q.kinds → token_at q i ≡ token_at s i
    one_token i h =
        sym (get_d_tokens q i (op 0) h) ∙ ap (λ (ts : List Token). get_or ts i (op 0)) e ∙ get_d_tokens s i (op 0) (omega (arith, count))

    one_sound : (i : ℕ) → i < length q.kinds → sound_at q i ≡ sound_at s i
    one_sound i h = sound_by_token q v i h ∙ ap sound_token (one_token i h) ∙ sym (sound_by_token s w i (omega (arith, count)))

    unsound_one : unsound q ≡ unsound s
    unsound_one =
        unsound-alike q s 0 (length q.kinds) (λ j h. subst (λ (n : ℕ). sound_at q n ≡ sound_at s n) (sym (zero-add j)) (one_sound j h))
        ∙ ap (unsound_from s 0) count
