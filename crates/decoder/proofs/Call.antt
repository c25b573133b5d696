-- The call: what the tokens are read as, after the scan; and that it is unambiguous, and what its number tells.
use Rattle.std.proofs.Common.{leb, cond, Fits, Result, Ok, Err, get_or, w8, w64}
use Prim.Native.Nat.{ℕ, ◌+◌, ◌-◌, ◌^◌, ◌≤◌, ◌<◌}
use mathlib.Core.Option.{Option, none, some}
use mathlib.Core.Path.{◌≡◌, refl, sym, ap, ap₂, subst, ◌∙◌}
use mathlib.Core.List.{List, ◌++◌, reverse}
use native.Mathlib.Omega.{arith}
use borrow.Author.Tests.{le-leb, lt-leb}
use lib.ListN.{length, length-append, length-reverse}
use Rattle.slices.specs.Bytes.{over}
use Rattle.slices.proofs.Bytes.{all_of}
use Rattle.semantics.specs.Operations.{Token}
use Rattle.semantics.specs.declared.Decoded.{Decoded}
use Rattle.semantics.specs.declared.Refusal.{Refusal}
use Rattle.semantics.specs.Trees.{Arith}
use Rattle.semantics.specs.Code.{code, max_code, max_tokens}
use Rattle.semantics.specs.Token.{form}
use Rattle.semantics.specs.Oracle.{oracle_rule}
use Rattle.semantics.specs.FromTokens.{Found, found, from_tokens, nothing}
use Rattle.semantics.specs.Records.{Records, token_at, tokens, unsound}
use Rattle.semantics.specs.Decode.{reading_sound, Decoding, Reading, decode, decoded, decoded_as, reading, unless_ruled}
use Rattle.semantics.specs.Meaning.{CallAccepts, CallToldApart, CallUnambiguous, decoded_number}
use Rattle.semantics.proofs.Canon.{canon}
use Rattle.semantics.proofs.Find.{reader_picked, reader_sound}
use Rattle.semantics.proofs.FromTokens.{arith_reader}
use Rattle.semantics.proofs.Meaning.{call_decodes, call_unambiguous, decoded-fits}
use Rattle.semantics.proofs.Records.{length-tokens, tokens_sound}
use Rattle.semantics.proofs.ToldApart.{call_told_apart}
use Rattle.productions.specs.Before.{before}
use Rattle.readers.specs.Readings.{reading_of}
use Rattle.decoder.specs.Sound.{Lent, Ready, scanned}
use Rattle.emission.specs.Pieces.{Piece, broken, joined, judged, pieces, unless_broken}
use Rattle.readers.specs.declared.Reading as R
use Rattle.productions.proofs.Tokens.{length_before, reverse-tokens}
use Rattle.emission.proofs.Trees.{arith_joined, arith_pieces, form-pieces}
use Rattle.emission.proofs.Rules.{broken-rule}

-- the pieces of the tokens from `start` on
abbrev pub all_pieces : Records → ℕ → List Piece
all_pieces r start = pieces (length r.kinds - start) (before (token_at r) (length r.kinds))

decode_is : (r : Records) → decode (tokens r) ≡ reading (from_tokens (before (token_at r) (length r.kinds)))
unfolding decode
decode_is r = ap (λ (ts : List Token). reading (from_tokens ts)) (reverse-tokens r)

-- 11: nothing is read
pub read_none : (r : Records) → R.Reading.Nothing ≡ reading_of (from_tokens (before (token_at r) (length r.kinds))) → decode (tokens r) ≡ Reading.refused Refusal.NoCondition
read_none r e = decode_is r ∙ go (from_tokens (before (token_at r) (length r.kinds))) e
  where
    go : (g : Found Arith) → R.Reading.Nothing ≡ reading_of g → reading g ≡ Reading.refused Refusal.NoCondition
    go (found a s) q = let z : ◌≡◌ {A = ℕ} 0 1 = cc in absurd (omega arith)
    go nothing q = refl

-- what is read is judged by its pieces
abbrev read_as : Option Refusal → List ℕ → ℕ → Reading
read_as none b start = Reading.accepted b start
read_as (some x) b start = Reading.refused x

ruled : (o : Option Refusal) (a : Arith) (start : ℕ) → unless_ruled o a start ≡ read_as o (code a) start
ruled none a start = refl
ruled (some x) a start = refl

pub read-judged : (r : Records) (start : ℕ) → R.Reading.Read start ≡ reading_of (from_tokens (before (token_at r) (length r.kinds)))
    → decode (tokens r) ≡ read_as (broken (all_pieces r start)) (joined (all_pieces r start)) start
read-judged r start e = decode_is r ∙ go (from_tokens (before (token_at r) (length r.kinds))) refl e
  where
    go : (g : Found Arith) → from_tokens (before (token_at r) (length r.kinds)) ≡ g → R.Reading.Read start ≡ reading_of g
        → reading g ≡ read_as (broken (all_pieces r start)) (joined (all_pieces r start)) start
    go (found a s) p q =
        let size : length s ≡ start = cc in
        let split : before (token_at r) (length r.kinds) ≡ reverse (form a) ++ s = reader_sound arith_reader (before (token_at r) (length r.kinds)) p in
        let same : canon a ≡ a = reader_picked arith_reader (before (token_at r) (length r.kinds)) p in
        let many : length r.kinds ≡ length (form a) + length s =
        sym (length_before (token_at r) (length r.kinds)) ∙ ap length split ∙ length-append (reverse (form a)) s ∙ ap (λ (n : ℕ). n + length s) (length-reverse (form a)) in
        let count : length r.kinds - start ≡ length (form a) = omega arith in
        let is : all_pieces r start ≡ arith_pieces a = ap₂ (λ (n : ℕ) (l : List Token). pieces n l) count split ∙ form-pieces a same s in
        ruled (oracle_rule a) a (length s)
        ∙ rw (is, broken-rule a, arith_joined a, size)
    go nothing p q = let z : ◌≡◌ {A = ℕ} 0 1 = cc in absurd (omega arith)

-- what is lent fits its types
pub lent_fits : (r : Records) → ((i : ℕ) → Fits w8 (get_or r.keys i 0)) → ((i : ℕ) → Fits w64 (get_or r.numbers i 0)) → Lent r
lent_fits r bytes wide = record { bytes = all_of (λ x. x < 256) r.keys 0 (λ i. (bytes i).fits); wide = all_of (λ n. n < 2 ^ 64) r.numbers 0 (λ i. (wide i).fits) }

-- a record's tokens that are read, as the code finds them: the rule is broken, or it is kept
module _ (r : Records) (old : List ℕ) (ready : Ready r old) (lent : Lent r) where
  pub turned_down : (x : Refusal) → decode (tokens r) ≡ Reading.refused x
      → ◌≡◌ {A = Decoding} (record { answer = Err x; buffer = old }) (decoded_as old (decode (tokens r)))
  turned_down x e = rw e

  module _ (start : ℕ) (read : R.Reading.Read start ≡ reading_of (from_tokens (before (token_at r) (length r.kinds)))) where
    pub rule-broken : (x : Refusal) → Err x ≡ judged (all_pieces r start) → decode (tokens r) ≡ Reading.refused x
    unfolding judged
    rule-broken x e = read-judged r start read ∙ go (broken (all_pieces r start)) e
      where
        go : (o : Option Refusal) → Err x ≡ unless_broken o (length (joined (all_pieces r start)))
            → read_as o (joined (all_pieces r start)) start ≡ Reading.refused x
        go none q = let z : ◌≡◌ {A = ℕ} 0 1 = cc in absurd (omega arith)
        go (some y) q = cc

    module _ (size : ℕ) (kept-is : Ok size ≡ judged (all_pieces r start)) where
      kept-size : (broken (all_pieces r start) ≡ none) × (size ≡ length (joined (all_pieces r start)))
      unfolding judged
      kept-size = go (broken (all_pieces r start)) refl kept-is
        where
          go : (o : Option Refusal) → broken (all_pieces r start) ≡ o → Ok size ≡ unless_broken o (length (joined (all_pieces r start)))
              → (broken (all_pieces r start) ≡ none) × (size ≡ length (joined (all_pieces r start)))
          go none p q = (p, cc)
          go (some y) p q = let z : ◌≡◌ {A = ℕ} 0 1 = cc in absurd (omega arith)

      accepted : decode (tokens r) ≡ Reading.accepted (joined (all_pieces r start)) start
      accepted = read-judged r start read ∙ ap (λ (o : Option Refusal). read_as o (joined (all_pieces r start)) start) kept-size.0

      -- the code fits the buffer, and is written there
      pub code-room : (size ≤ length old) × (size ≡ length (joined (all_pieces r start)))
      code-room =
          let fits = decoded-fits (tokens r) (rw length-tokens ready.few) (tokens_sound r lent.bytes lent.wide ready.sound) (joined (all_pieces r start)) start accepted in
          (omega (arith, fits, kept-size.1, ready.full), kept-size.1)

      pub code_accepted : (after : List ℕ) → after ≡ over (joined (all_pieces r start)) old
          → ◌≡◌ {A = Decoding} (record { answer = Ok (record { bytes = size; start = start }); buffer = after }) (decoded_as old (decode (tokens r)))
      code_accepted after e = rw (accepted, e, ← kept-size.1)

-- 10; and where there are not too many records, by the scan, and then
pub decoded_many : (r : Records) (old : List ℕ) → max_tokens < length r.kinds → decoded r old ≡ record { answer = Err Refusal.TooManyRecords; buffer = old }
unfolding decoded
decoded_many r old many = rw (lt-leb (length r.kinds) max_tokens many)

abbrev pub decoded_after : Result (Unit {0}) ℕ → Records → List ℕ → Decoding
decoded_after (Err i) r old = record { answer = Err (Refusal.TokenUnsound i); buffer = old }
decoded_after (Ok u) r old = decoded_as old (cond (leb max_code (length old)) (decode (tokens r)) (Reading.refused Refusal.BufferTooShort))

pub decoded_scan : (r : Records) (old : List ℕ) → length r.kinds ≤ max_tokens → decoded r old ≡ decoded_after (scanned (unsound r)) r old
unfolding decoded
decoded_scan r old few = rw (le-leb (length r.kinds) max_tokens few) (go (unsound r))
  where
    go : (x : Option ℕ) → decoded_as old (reading_sound x (tokens r) old) ≡ decoded_after (scanned x) r old
    go none = refl
    go (some i) = refl

-- and what the tokens are read as makes the call unambiguous, and tells conditions apart
module _ (r : Records) (old : List ℕ) (lent : Lent r)
    (d : Result Decoded Refusal) (after : List ℕ) (is : ◌≡◌ {A = Decoding} (record { answer = d; buffer = after }) (decoded_as old (decode (tokens r)))) where
  pub answer_unambiguous : CallUnambiguous r old (CallAccepts d after)
  answer_unambiguous few all full =
      subst (λ (x : Decoding). CallUnambiguous r old (CallAccepts x.answer x.buffer)) (call_decodes r old few all full ∙ sym is)
      (call_unambiguous r old lent.bytes lent.wide) few all full

  pub answer_told_apart : CallToldApart r old (decoded_number d)
  answer_told_apart few all full =
      subst (λ (x : Decoding). CallToldApart r old (decoded_number x.answer)) (call_decodes r old few all full ∙ sym is)
      (call_told_apart r old lent.bytes lent.wide) few all full
