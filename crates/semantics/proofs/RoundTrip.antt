-- The round trip: Decode of what Write wrote gives back the condition, the twin apart, at position 0.
use Rattle.std.proofs.Common.{Ok}
use Prim.Native.Nat.{ℕ, zero, suc, ◌+◌, ◌*◌, ◌≤◌, ◌<◌, ◌^◌}
use mathlib.Core.Bool.{Bool, true, false, ◌&&◌, ◌||◌, not}
use mathlib.Core.Option.{Option, none}
use mathlib.Core.Path.{◌≡◌, refl, sym, ap, subst, ◌∙◌}
use mathlib.Core.List.{List, [], ◌∷◌, append-nil, map, reverse}
use native.Mathlib.Nat.{add-suc, add-zero, suc-add, zero-add}
use native.Mathlib.Omega.{arith}
use borrow.Author.Tests.{le-leb, lt-ltb, ne_eqb}
use lib.Dec.{eqb, leb, ltb}
use lib.ListN.{length, get_or, take, drop, length-map, get_or-map}
use lib.Seq.{ext_get_or, get_or-take, take_at}
use Rattle.slices.specs.Bytes.{All, Bytes, over}
use Rattle.slices.proofs.Bytes.{all_get_d}
use Rattle.semantics.proofs.Results.{same_ok}
use Rattle.semantics.specs.Check.{Condition, condition}
use Rattle.semantics.specs.Code.{code, max_code}
use Rattle.semantics.specs.Decode.{Reading, decode, decoded, decoded_as, reading, unless_ruled}
use Rattle.semantics.specs.FromTokens.{from_tokens}
use Rattle.semantics.specs.Oracle.{oracle_rule}
use Rattle.semantics.specs.Records.{Records, key_of, sound_at, token_at, token_of, tokens, unsound, unsound_from}
use Rattle.semantics.specs.Refusals.{Refusal, first_of, unless}
use Rattle.semantics.specs.Token.{Token, form, narrow, op}
use Rattle.semantics.specs.Trees.{Arith}
use Rattle.semantics.specs.Write.{Writing, Written, keys_of, leaves, place_in, room_for, writes_unless, writing, wrote, written}
use Rattle.semantics.proofs.Canon.{canon, oracle_rule-canon}
use Rattle.semantics.proofs.Forms.{form_sound}
use Rattle.semantics.proofs.FromTokens.{arith_reader}
use Rattle.semantics.proofs.Meaning.{call_decodes}
use Rattle.semantics.proofs.Passing.{passing}
use Rattle.semantics.proofs.Placing.{key_stands}
use Rattle.semantics.proofs.Records.{get_d_tokens, length-tokens, written-tokens}
use Rattle.semantics.specs.Meaning.{Sound, SoundAs}

-- the first n records
abbrev pub first_records : ℕ → Records → Records
first_records n r =
    record { kinds = take n r.kinds; numbers = take n r.numbers; places = take n r.places; keys = r.keys }

-- a sound token's record is sound, where its key is there
sound_record : (kind number : ℕ) (key : List ℕ) (there : Bool) → SoundAs kind number key → (kind ≡ 3 → there ≡ true)
    → (leb kind 35 && (not (eqb kind 1) || ltb number (2 ^ 32)) && (not (eqb kind 3) || there)) ≡ true
sound_record zero number key there s w = refl
sound_record (suc zero) number key there s w = rw (lt-ltb number (2 ^ 32) s.0)
sound_record (suc (suc zero)) number key there s w = refl
sound_record (suc (suc (suc zero))) number key there s w = w refl
sound_record (suc (suc (suc (suc k)))) number key there s w =
    let kind = suc (suc (suc (suc k))) in
    rw (le-leb kind 35 s.0, ne_eqb kind 1 (λ e. omega arith), ne_eqb kind 3 (λ e. omega arith))

no_unsound : (r : Records) (i k : ℕ) → ((j : ℕ) → j < k → sound_at r (i + j) ≡ true) → unsound_from r i k ≡ none
unfolding unsound_from
no_unsound r i zero h = refl
no_unsound r i (suc k) h =
    rw (rw add-zero at (h 0 (omega arith)))
    (no_unsound r (suc i) k (λ j g. subst (λ (n : ℕ). sound_at r n ≡ true) (add-suc i j ∙ sym (suc-add i j)) (h (suc j) (omega arith))))

-- the records of tokens that were written are those tokens, and sound
module _ (ts : List Token) (old : Records) (sound : All Sound ts) where
  abbrev new : Records
  new = leaves (Writing.writes ts) old

  abbrev r : Records
  r = first_records (length ts) new

  column : (f : Token → ℕ) (x : List ℕ) → take (length ts) (over (map f ts) x) ≡ map f ts
  column f x = take_at (map f ts) (drop (length (map f ts)) x) (length ts) (simp length-map)

  kinds_are : r.kinds ≡ map (λ t. t.kind) ts
  kinds_are = column (λ t. t.kind) old.kinds

  numbers_are : r.numbers ≡ map (λ t. t.number) ts
  numbers_are = column (λ t. t.number) old.numbers

  count_is : length r.kinds ≡ length ts
  count_is = ap length kinds_are ∙ simp length-map

  numbers_count : length r.numbers ≡ length ts
  numbers_count = ap length numbers_are ∙ simp length-map

  places_count : length r.places ≡ length ts
  places_count = ap length (column (place_in (keys_of ts)) old.places) ∙ simp length-map

  -- record by record
  module _ (i : ℕ) (h : i < length ts) where
    kind_is : get_or r.kinds i 0 ≡ get_or new.kinds i 0
    kind_is = get_or-take (length ts) new.kinds i 0 h

    number_is : get_or r.numbers i 0 ≡ get_or new.numbers i 0
    number_is = get_or-take (length ts) new.numbers i 0 h

    place_is : get_or r.places i 0 ≡ get_or new.places i 0
    place_is = get_or-take (length ts) new.places i 0 h

    record_is : token_at r i ≡ get_or ts i (op 0)
    record_is =
        ap (λ (k : ℕ). token_of k (get_or r.numbers i 0) (key_of r i)) kind_is
        ∙ ap (λ (m : ℕ). token_of (get_or new.kinds i 0) m (key_of r i)) number_is
        ∙ ap (λ (p : ℕ). token_of (get_or new.kinds i 0) (get_or new.numbers i 0) (take 32 (drop p new.keys))) place_is
        ∙ written-tokens ts old sound i h

    record_sound : sound_at r i ≡ true
    record_sound =
        let t = get_or ts i (op 0) in
        let kind : get_or r.kinds i 0 ≡ t.kind = ap (λ (l : List ℕ). get_or l i 0) kinds_are ∙ get_or-map (λ x. x.kind) ts i (op 0) in
        let number : get_or r.numbers i 0 ≡ t.number = ap (λ (l : List ℕ). get_or l i 0) numbers_are ∙ get_or-map (λ x. x.number) ts i (op 0) in
        let is : SoundAs (get_or r.kinds i 0) (get_or r.numbers i 0) t.key =
        subst (λ (k : ℕ). SoundAs k (get_or r.numbers i 0) t.key) (sym kind)
        (subst (λ (m : ℕ). SoundAs t.kind m t.key) (sym number) (all_get_d Sound ts i (op 0) (refl, refl) sound)) in
        let key : get_or r.kinds i 0 ≡ 3 → leb (get_or r.places i 0 + 32) (length r.keys) ≡ true =
        λ e. le-leb (get_or r.places i 0 + 32) (length r.keys) (omega (arith, place_is, (key_stands ts old sound i h (sym kind ∙ e)).0)) in
        let numbered : i < length r.numbers = omega (arith, numbers_count) in
        let placed : i < length r.places = omega (arith, places_count) in
        rw (lt-ltb i (length r.numbers) numbered, lt-ltb i (length r.places) placed)
        (sound_record (get_or r.kinds i 0) (get_or r.numbers i 0) t.key (leb (get_or r.places i 0 + 32) (length r.keys)) is key)

  tokens_are : tokens r ≡ ts
  tokens_are =
      ext_get_or (op 0) (tokens r) ts (length-tokens r ∙ count_is)
      λ i h. let g : i < length ts = omega (arith, length-tokens r, count_is) in get_d_tokens r i (op 0) (omega (arith, count_is)) ∙ record_is i g

  none_unsound : unsound r ≡ none
  none_unsound = no_unsound r 0 (length r.kinds) (λ j h. subst (λ (k : ℕ). sound_at r k ≡ true) (sym (zero-add j)) (record_sound j (omega (arith, count_is))))

-- what was written, where Write says that records were
pub write_writes : (b : List ℕ) (a : Arith) (old : Records) (count keyBytes : ℕ) → condition b ≡ Condition.passed a
    → (wrote b old).answer ≡ Ok (record { records = count; key_bytes = keyBytes })
    → (writing b old ≡ Writing.writes (form a)) × (narrow (form a) ≡ true) × (count ≡ length (form a)) × (keyBytes ≡ 32 * length (keys_of (form a)))
unfolding writing wrote
write_writes b a old count keyBytes e f =
    rw e (go (narrow (form a)) (room_for (length (form a)) (length (keys_of (form a))) old) (rw e at f))
  where
    go : (x y : Bool) → written (writes_unless (first_of (unless x Refusal.IndexConstTooLarge ∷ unless y Refusal.BufferTooShort ∷ [])) (form a)) ≡ Ok (record { records = count; key_bytes = keyBytes })
        → (writes_unless (first_of (unless x Refusal.IndexConstTooLarge ∷ unless y Refusal.BufferTooShort ∷ [])) (form a) ≡ Writing.writes (form a))
        × (x ≡ true) × (count ≡ length (form a)) × (keyBytes ≡ 32 * length (keys_of (form a)))
    go true true h = (refl, refl, sym (ap (λ (w : Written). w.records) (same_ok h)), sym (ap (λ (w : Written). w.key_bytes) (same_ok h)))
    go true false h = let z : ◌≡◌ {A = ℕ} 0 1 = cc in absurd (omega arith)
    go false y h = let z : ◌≡◌ {A = ℕ} 0 1 = cc in absurd (omega arith)

decode-form : (a : Arith) → oracle_rule a ≡ none → decode (form a) ≡ Reading.accepted (code (canon a)) 0
unfolding decode
decode-form a e =
    ap (λ (ts : List Token). reading (from_tokens ts)) (sym (append-nil (reverse (form a)))) ∙ ap reading (arith_reader.own a [])
    ∙ ap (λ (o : Option Refusal). unless_ruled o (canon a) 0) (oracle_rule-canon a ∙ e)

-- THE ROUND TRIP, for a full-sized buffer: b is a condition a that passes, and Write wrote `count` records
pub round_trip : (b : List ℕ) → Bytes b → (a : Arith) → condition b ≡ Condition.passed a
    → (old : Records) (count keyBytes : ℕ) → (wrote b old).answer ≡ Ok (record { records = count; key_bytes = keyBytes }) → (buffer : List ℕ) → max_code ≤ length buffer
    → decoded (first_records count (wrote b old).records) buffer ≡ record { answer = Ok (record { bytes = length (code (canon a)); start = 0 }); buffer = over (code (canon a)) buffer }
unfolding wrote
round_trip b bytes a e old count keyBytes told buffer full =
    let p = passing b bytes a e in
    let h = write_writes b a old count keyBytes e told in
    let ts = form a in
    let sound = form_sound a p.encodable h.1 in
    let r = first_records (length ts) (leaves (Writing.writes ts) old) in
    ap (λ (n : ℕ). decoded (first_records n (leaves (writing b old) old)) buffer) h.2
    ∙ ap (λ (x : Writing). decoded (first_records (length ts) (leaves x old)) buffer) h.0
    ∙ call_decodes r buffer (omega (arith, count_is ts old sound, p.few)) (none_unsound ts old sound) full
    ∙ ap (λ (l : List Token). decoded_as buffer (decode l)) (tokens_are ts old sound) ∙ ap (decoded_as buffer) (decode-form a p.rule)
