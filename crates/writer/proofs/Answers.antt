-- What Write answers, by Check's answer, the tests of 6 and 7, and what the passes over the commands found and wrote.
use Rattle.std.proofs.Common.{Result, Ok, Err, Fits, w8}
use Prim.Native.Nat.{ℕ, ◌*◌, ◌≤◌, ◌<◌, ◌^◌}
use mathlib.Core.Bool.{Bool, true, false}
use mathlib.Core.Path.{◌≡◌, refl, sym, ap, ◌∙◌}
use mathlib.Core.List.{List, [], ◌∷◌, ◌++◌, map}
use native.Mathlib.Omega.{arith}
use lib.ListN.{get_or, length}
use Rattle.semantics.specs.Refusals.{first_of, unless}
use Rattle.slices.specs.Bytes.{Bytes, over}
use Rattle.semantics.specs.declared.Refusal.{Refusal}
use Rattle.semantics.specs.declared.Written.{Written}
use Rattle.semantics.specs.Check.{checked, condition}
use Rattle.slices.proofs.Bytes.{all_of}
use Rattle.semantics.specs.Code.{max_tokens}
use Rattle.semantics.specs.Operations.{Token}
use Rattle.semantics.specs.Records.{Records, records_of}
use Rattle.semantics.specs.Token.{form}
use Rattle.semantics.specs.Trees.{Arith}
use Rattle.semantics.specs.Write.{Writing, Wrote, joined, keys_of, place_in, room_for, writes_unless, writing, wrote}
use Rattle.semantics.proofs.Passing.{Passed, answered-refused, passed_short}
use Rattle.semantics.proofs.Forms.{form-keys}
use Rattle.semantics.proofs.Placing.{keys_few}
use Rattle.semantics.proofs.Room.{has_room}
use Rattle.summary.specs.declared.Summary.{Summary}
use Rattle.condition.specs.Walk.{examined}
use Rattle.condition.proofs.Onward.{passed, told}
use Rattle.conversions.specs.Marks.{marks_of, narrow_code}
use Rattle.keys.specs.Keys.{KeysFound, code_keys, keys_at}
use Rattle.keys.proofs.Noting.{keys-count}
use Rattle.forms.specs.Emitted.{emitted}
use Rattle.token_form.specs.Storing.{Room, Stored, columns_of}
use Rattle.token_form.proofs.Keyed.{code-keys}
use Rattle.forms.proofs.OfTree as of_Tree

-- with code b and the records old it answers r and leaves the records new
abbrev pub Outcome : List ℕ → Records → Result Written Refusal → Records → Type 0
Outcome b old r new = ◌≡◌ {A = Wrote} (record { answer = r; records = new }) (wrote b old)

-- 1 to 5
pub refused_first : (b : List ℕ) (old : Records) (r : Refusal) → examined b ≡ Err r → wrote b old ≡ record { answer = Err r; records = old }
unfolding checked writing wrote
refused_first b old r e = rw (answered-refused (condition b) r (told b (Err r) e))

pub few_tokens : (b : List ℕ) (s : Summary) → examined b ≡ Ok s → s.tokens ≤ max_tokens
few_tokens b s e = let p = passed b s e in rw p.known at p.few

-- positions in a condition are 16 bits wide
pub short : (b : List ℕ) (t m : ℕ) → checked b ≡ Ok (record { tokens = t; oracles = m }) → length b < 2 ^ 16
short b t m e = omega (arith, passed_short b t m e)

-- a condition that passes is a tree
module _ (b : List ℕ) (bytes-fit : (i : ℕ) → Fits w8 (get_or b i 0)) (s : Summary) (passes : examined b ≡ Ok s) where
  abbrev bytes : Bytes b
  bytes = all_of (λ x. x < 256) b 0 (λ i. (bytes-fit i).fits)

  abbrev t : ℕ
  t = s.tokens

  abbrev m : ℕ
  m = s.oracles

  abbrev checks : checked b ≡ Ok (record { tokens = t; oracles = m })
  checks = told b (Ok s) passes

  pub near : length b < 2 ^ 16
  near = short b t m checks

  abbrev known : Passed b t m
  known = of_Tree.known b bytes t m checks

  abbrev tree : Arith
  tree = of_Tree.tree b bytes t m checks

  tokens_are : (marks rest : List Bool) → marks ≡ marks_of b ++ rest → emitted b marks ≡ form tree
  tokens_are = of_Tree.tokens_are b bytes t m checks

  code-keys_are : keys_of (form tree) ≡ code_keys b
  code-keys_are = ap keys_of (sym (tokens_are (marks_of b ++ []) [] refl)) ∙ code-keys b (marks_of b ++ [])

  pub keys_bound : length (code_keys b) ≤ m
  keys_bound = omega (arith, ap length code-keys_are, form-keys tree, known.terminals)

  module _ (old : Records) where
    guards : writing b old
        ≡ writes_unless (first_of (unless (narrow_code b) Refusal.IndexConstTooLarge ∷ unless (room_for t (length (keys_of (form tree))) old) Refusal.BufferTooShort ∷ [])) (form tree)
    unfolding writing
    guards = rw (known.is, of_Tree.narrow_is b bytes t m checks, known.tokens)

    pub refused-narrow : narrow_code b ≡ false → Outcome b old (Err Refusal.IndexConstTooLarge) old
    unfolding wrote
    refused-narrow e = let g : writing b old ≡ Writing.refused Refusal.IndexConstTooLarge = guards ∙ rw e in rw g

  -- the keys that were found are the form's
  module _ (narrow-code : narrow_code b ≡ true) (positions : List ℕ) (found : KeysFound b positions) where
    abbrev n : ℕ
    n = length positions

    keys_are : keys_of (form tree) ≡ keys_at b positions
    keys_are = code-keys_are ∙ sym found.keys

    count_is : length (keys_of (form tree)) ≡ n
    count_is = ap length keys_are ∙ keys-count b positions

    pub few_keys : n < 2 ^ 16
    few_keys = omega (arith, count_is, keys_few [] (form tree), known.told.few)

    pub refused-room : (old : Records) → room_for t n old ≡ false → Outcome b old (Err Refusal.BufferTooShort) old
    unfolding wrote
    refused-room old e = let g : writing b old ≡ Writing.refused Refusal.BufferTooShort = guards old ∙ rw (narrow-code, count_is, e) in rw g

    module _ (old : Records) (roomy : room_for t n old ≡ true) where
      pub key-room : 32 * n ≤ length old.keys
      key-room = (has_room t n old roomy).3

      module _ (marks rest : List Bool) (marked : marks ≡ marks_of b ++ rest) where
        pub room : Room (emitted b marks) (columns_of old.kinds old.numbers old.places)
        room =
            let enough = has_room t n old roomy in
            rw (tokens_are marks rest marked) (record {
              kinds = omega (arith, known.tokens, enough.0);
              numbers = omega (arith, known.tokens, enough.1);
              places = omega (arith, known.tokens, enough.2);
            })

        pub wrote_all : (kinds numbers places keys : List ℕ)
            → Stored (emitted b marks) (keys_at b positions) (columns_of old.kinds old.numbers old.places) (columns_of kinds numbers places)
            → keys ≡ over (joined (keys_at b positions)) old.keys
            → Outcome b old (Ok (record { records = t; key_bytes = 32 * n })) (records_of kinds numbers places keys)
        unfolding wrote
        wrote_all kinds numbers places keys stored e =
            let ts = form tree in
            let w = rw (tokens_are marks rest marked) at stored in
            let a : Ok (record { records = t; key_bytes = 32 * n }) ≡ Ok (record { records = length ts; key_bytes = 32 * length (keys_of ts) }) = rw (known.tokens, count_is) in
            let k : kinds ≡ over (map (λ (u : Token). u.kind) ts) old.kinds = w.kinds in
            let l : numbers ≡ over (map (λ (u : Token). u.number) ts) old.numbers = w.numbers in
            let p : places ≡ over (map (place_in (keys_of ts)) ts) old.places = rw keys_are w.places in
            let q : keys ≡ over (joined (keys_of ts)) old.keys = rw keys_are e in
            let g : writing b old ≡ Writing.writes ts = guards old ∙ rw (narrow-code, count_is, roomy) in
            rw g (λ i. record { answer = a i; records = record { kinds = k i; numbers = l i; places = p i; keys = q i } })
