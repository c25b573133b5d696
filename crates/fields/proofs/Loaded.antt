-- From arrays of fields to records: what Decode gives for the fields that were loaded it gives for the records, and what Write wrote as fields is stored as records.
use Rattle.std.proofs.Common.{Result, Err}
use Prim.Native.Nat.{ℕ, ◌≤◌, ◌<◌, min}
use mathlib.Core.Bool.{Bool, true, false, cond}
use mathlib.Core.Path.{◌≡◌, refl, sym, ap, ◌∙◌, subst, transport}
use mathlib.Core.List.{List, ◌++◌, map}
use native.Mathlib.Omega.{arith}
use borrow.Author.Tests.{le-leb, leb-false, leb-true, lt-leb}
use lib.ListN.{length, take, drop, length-map}
use lib.Seq.{length-take-le, take_at, take-length}
use lib.Dec.{leb}
use Rattle.slices.specs.Bytes.{Bytes}
use Rattle.semantics.specs.Code.{max_tokens}
use Rattle.semantics.specs.Decode.{Decoding, decoded}
use Rattle.semantics.specs.Meaning.{CallAccepts, CallToldApart, CallUnambiguous, decoded_number}
use Rattle.semantics.specs.declared.Decoded.{Decoded}
use Rattle.semantics.specs.declared.Refusal.{Refusal}
use Rattle.semantics.specs.Records.{Records}
use Rattle.semantics.specs.Write.{Writing, leaves, room_for, writing, written, wrote}
use Rattle.records.specs.declared.TokenRecord.{TokenRecord}
use Rattle.records.specs.Fields.{fields_of, kinds_of, numbers_of, places_of, records_from}
use Rattle.semantics.proofs.Room.{count_of, too_many_records, writing-alike, writing-fits}
use Rattle.records.proofs.Stored.{stored, stored_kept}
use Rattle.answers.specs.declared.DecodeAnswer.{DecodeAnswer}
use Rattle.answers.specs.declared.WriteAnswer.{WriteAnswer}
use Rattle.answers.specs.Answers.{decode_answer, write_answer}
use Rattle.answers.proofs.Accepted.{answer-number, answer_unambiguous}
use Rattle.fields.specs.TokenRecords.{DecodesRecords, Loaded, WritesFields, loadable, writable}

-- ---- Decode

pub loaded_few : (count : ℕ) → count ≤ max_tokens → loadable count ≡ count
loaded_few count h = rw (le-leb count max_tokens h)

module _ (rs : List TokenRecord) (keys old new : List ℕ) (r : DecodeAnswer) where
  pub refuses : max_tokens < length rs → r ≡ decode_answer (Err Refusal.TooManyRecords) → new ≡ old → DecodesRecords rs keys old new r
  refuses h e f =
      let d : decoded (fields_of rs keys) old ≡ record { answer = Err Refusal.TooManyRecords; buffer = old } = too_many_records (fields_of rs keys) old (rw length-map h) in
      let many : length (kinds_of rs) ≤ max_tokens → ⊥ = λ few. omega (arith, h, few, length-map rs (λ (t : TokenRecord). t.kind)) in
      record { answer = rw d e; buffer = rw d f; unambiguous = λ few. absurd (many few); told_apart = λ few. absurd (many few) }

  pub decodes : (kinds numbers places : List ℕ) (d : Result Decoded Refusal) (count : ℕ) → length rs ≡ count → count ≤ max_tokens → Loaded rs kinds numbers places
      → record { answer = d; buffer = new } ≡ decoded (record { kinds = take count kinds; numbers = take count numbers; places = take count places; keys = keys }) old
      → CallUnambiguous (record { kinds = take count kinds; numbers = take count numbers; places = take count places; keys = keys }) old (CallAccepts d new)
      → CallToldApart (record { kinds = take count kinds; numbers = take count numbers; places = take count places; keys = keys }) old (decoded_number d)
      → r ≡ decode_answer d → DecodesRecords rs keys old new r
  decodes kinds numbers places d count size h l e u t f =
      let few : loadable (length rs) ≡ count = rw size (loaded_few count h) in
      let k : take count kinds ≡ kinds_of rs = subst (λ (m : ℕ). take m kinds ≡ take m (kinds_of rs)) few l.kinds_loaded ∙ all (λ t. t.kind) in
      let m : take count numbers ≡ numbers_of rs = subst (λ (m : ℕ). take m numbers ≡ take m (numbers_of rs)) few l.numbers_loaded ∙ all (λ t. t.number) in
      let p : take count places ≡ places_of rs = subst (λ (m : ℕ). take m places ≡ take m (places_of rs)) few l.places_loaded ∙ all (λ t. t.place) in
      let whole : record { answer = d; buffer = new } ≡ decoded (fields_of rs keys) old = e ∙ (λ i. decoded (record { kinds = k i; numbers = m i; places = p i; keys = keys }) old) in
      let mine : CallUnambiguous (fields_of rs keys) old (CallAccepts d new) =
      transport (λ i. CallUnambiguous (record { kinds = k i; numbers = m i; places = p i; keys = keys }) old (CallAccepts d new)) u in
      let number : r.number ≡ decoded_number d = ap (λ (x : DecodeAnswer). x.number) f ∙ answer-number d in
      record {
        answer = f ∙ ap (λ (x : Decoding). decode_answer x.answer) whole;
        buffer = ap (λ (x : Decoding). x.buffer) whole;
        unambiguous = rw f (answer_unambiguous (fields_of rs keys) old d new mine);
        told_apart = rw number (transport (λ i. CallToldApart (record { kinds = k i; numbers = m i; places = p i; keys = keys }) old (decoded_number d)) t);
      }
    where
      all : (g : TokenRecord → ℕ) → take count (map g rs) ≡ map g rs
      all g = ap (λ (m : ℕ). take m (map g rs)) (sym (length-map rs g ∙ size)) ∙ take-length (map g rs)

-- what is loaded has room, and stands at the front then
pub loadable_few : (count : ℕ) → (loadable count ≤ count) × (loadable count ≤ max_tokens)
loadable_few count = by (leb count max_tokens) refl
  where
    by : (t : Bool) → leb count max_tokens ≡ t → (cond t count 0 ≤ count) × (cond t count 0 ≤ max_tokens)
    by true e = (omega arith, leb-true count max_tokens e)
    by false e = (omega arith, omega arith)

pub loads : (rs : List TokenRecord) (m : ℕ) → m ≡ loadable (length rs) → (ks ns ps : List ℕ)
    → Loaded rs (take m (kinds_of rs) ++ drop m ks) (take m (numbers_of rs) ++ drop m ns) (take m (places_of rs) ++ drop m ps)
loads rs m e ks ns ps =
    record { kinds_loaded = rw (← e) (front (λ t. t.kind) ks); numbers_loaded = rw (← e) (front (λ t. t.number) ns); places_loaded = rw (← e) (front (λ t. t.place) ps) }
  where
    front : (g : TokenRecord → ℕ) (zs : List ℕ) → take m (take m (map g rs) ++ drop m zs) ≡ take m (map g rs)
    front g zs = take_at (take m (map g rs)) (drop m zs) m (length-take-le m (map g rs) (omega (arith, e, (loadable_few (length rs)).0, length-map rs g)))

-- ---- Write

-- how many records are written for: as many as there are, and no more than a form reaches
pub writable_few : (count : ℕ) → (writable count ≤ count) × (writable count ≤ max_tokens)
writable_few count = by (leb count max_tokens) refl
  where
    by : (t : Bool) → leb count max_tokens ≡ t → (cond t count max_tokens ≤ count) × (cond t count max_tokens ≤ max_tokens)
    by true e = (omega arith, leb-true count max_tokens e)
    by false e = (omega (arith, leb-false count max_tokens e), omega arith)

pub writable_min : (count : ℕ) → min count max_tokens ≡ writable count
writable_min count = by (leb count max_tokens) refl
  where
    by : (t : Bool) → leb count max_tokens ≡ t → min count max_tokens ≡ cond t count max_tokens
    by true e = omega (arith, leb-true count max_tokens e)
    by false e = omega (arith, leb-false count max_tokens e)

pub loadable_all : (count : ℕ) → count ≤ max_tokens → count ≡ loadable count
loadable_all count h = rw (le-leb count max_tokens h)

pub loadable_none : (count : ℕ) → max_tokens < count → 0 ≡ loadable count
loadable_none count h = rw (lt-leb count max_tokens h)

-- a form that has room in all records has room in those
writable_same : (count t : ℕ) → t ≤ max_tokens → leb t count ≡ leb t (writable count)
writable_same count t h = by (leb count max_tokens) refl
  where
    by : (x : Bool) → leb count max_tokens ≡ x → leb t count ≡ leb t (cond x count max_tokens)
    by true e = refl
    by false e = rw (le-leb t max_tokens h) (le-leb t count (omega (arith, leb-false count max_tokens e)))

records-count : (w : Writing) → (write_answer (written w)).records ≡ count_of w
records-count (Writing.refused r) = refl
records-count (Writing.writes ts) = refl

module _ (code : List ℕ) (bytes : Bytes code) (count n : ℕ) (few : n ≡ writable count) (kinds numbers places keys : List ℕ) (new : Records) (r : WriteAnswer)
    (long₁ : max_tokens ≤ length kinds) (long₂ : max_tokens ≤ length numbers) (long₃ : max_tokens ≤ length places) where
  abbrev old : Records
  old = record { kinds = take n kinds; numbers = take n numbers; places = take n places; keys = keys }

  abbrev w : Writing
  w = writing code old

  front : (l : List ℕ) → max_tokens ≤ length l → length (take n l) ≡ n
  front l h = length-take-le n l (omega (arith, few, (writable_few count).1, h))

  same_room : (rs : List TokenRecord) → length rs ≡ count → (t k : ℕ) → t ≤ max_tokens → room_for t k (fields_of rs keys) ≡ room_for t k old
  same_room rs size t k h =
      let e = writable_same count t h ∙ ap (leb t) (sym few) in
      rw (length-map rs (λ (u : TokenRecord). u.kind), length-map rs (λ (u : TokenRecord). u.number), length-map rs (λ (u : TokenRecord). u.place), size, front kinds long₁, front numbers long₂, front places long₃, e)

  pub fields_written : r ≡ write_answer (wrote code old).answer → new ≡ (wrote code old).records
      → WritesFields code count (new.kinds ++ drop n kinds) (new.numbers ++ drop n numbers) (new.places ++ drop n places) keys new.keys r
  unfolding wrote
  fields_written e s =
      let c : r.records ≡ count_of w = ap (λ (x : WriteAnswer). x.records) e ∙ records-count w in
      let f = writing-fits code old in
      let fits : count_of w ≤ n = omega (arith, f.0, front kinds long₁) in
      record {
        few = omega (arith, c, fits, few, (writable_few count).0);
        fit = omega (arith, c, fits, few, (writable_few count).1);
        stored = λ rs size.
            let same : writing code (fields_of rs keys) ≡ w = writing-alike code bytes (fields_of rs keys) old (same_room rs size) in
            let us = records_from (new.kinds ++ drop n kinds) (new.numbers ++ drop n numbers) (new.places ++ drop n places) in
            record {
              answer = rw same e;
              writes = rw same
                  (subst (λ (m : ℕ). fields_of (take m us ++ drop m rs) new.keys ≡ leaves w (fields_of rs keys)) (sym c)
                  (stored rs old new (drop n kinds) (drop n numbers) (drop n places) w s));
              kept = subst (λ (m : ℕ). drop m (take m us ++ drop m rs) ≡ drop m rs) (sym c)
                  (stored_kept rs old new (drop n kinds) (drop n numbers) (drop n places) w s);
            };
      }
