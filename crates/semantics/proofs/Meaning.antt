-- DEMAND 3 holds: `unambiguous`, of every list of up to 1,024 sound tokens, and `call_unambiguous`, of the call on records.
use Prim.Native.Nat.{ℕ, ◌≤◌, ◌<◌, ◌^◌}
use mathlib.Core.Option.{Option, none, some}
use mathlib.Core.Path.{◌≡◌, refl, sym, ap, ◌∙◌, subst, subst₂}
use mathlib.Core.List.{List, [], ◌++◌, reverse, reverse-append, reverse-reverse}
use native.Mathlib.Omega.{arith}
use borrow.Author.Tests.{le-leb}
use lib.ListN.{length, take, drop, length-append, length-reverse, length-drop, take-append-drop}
use lib.Seq.{length-take-le, take_at, drop_at}
use Rattle.slices.specs.Bytes.{All, Bytes}
use Rattle.slices.proofs.Bytes.{all_append}
use Rattle.semantics.proofs.Results.{same_ok}
use Rattle.semantics.specs.Check.{condition}
use Rattle.semantics.specs.Code.{code, max_code, max_tokens}
use Rattle.semantics.specs.Decode.{Decoded, Reading, decode, decoded, decoded_as, reading, unless_ruled}
use Rattle.semantics.specs.Evaluate.{Lent, evaluated}
use Rattle.semantics.specs.FromTokens.{Found, found, from_tokens, nothing}
use Rattle.semantics.specs.Meaning.{CallAccepts, CallUnambiguous, DecodeAccepts, FormAt, HasForm, ListUnambiguous, PassingAt, Sound, Unambiguous}
use Rattle.semantics.specs.Oracle.{oracle_rule}
use Rattle.semantics.specs.Records.{Records, tokens, unsound}
use Rattle.semantics.specs.Refusals.{Refusal}
use Rattle.semantics.specs.Token.{Token, form}
use Rattle.semantics.specs.Trees.{Arith}
use Rattle.semantics.proofs.Canon.{canon, judged-alike, oracle_rule-canon}
use Rattle.semantics.proofs.CodeParse.{code-parse, parse_encodable}
use Rattle.semantics.proofs.CodeSize.{code_fits}
use Rattle.semantics.proofs.Encodable.{code-bytes, encodable}
use Rattle.semantics.proofs.Find.{reader_one, reader_sound}
use Rattle.semantics.proofs.Forms.{narrow_sound}
use Rattle.semantics.proofs.FromTokens.{arith_reader}
use Rattle.semantics.proofs.Heads.{form_long}
use Rattle.semantics.proofs.ParseCode.{parse-code}
use Rattle.semantics.proofs.Records.{length-tokens, tokens_sound}

-- what Decode goes by where it accepts
accepted_by : (g : Found Arith) (b : List ℕ) (n : ℕ) → reading g ≡ Reading.accepted b n
    → (c : Arith) × (r : List Token) × (g ≡ found c r) × (oracle_rule c ≡ none) × (code c ≡ b) × (length r ≡ n)
accepted_by (found c r) b n e = go (oracle_rule c) refl e
  where
    go : (t : Option Refusal) → oracle_rule c ≡ t → unless_ruled t c (length r) ≡ Reading.accepted b n
        → (d : Arith) × (s : List Token) × (found c r ≡ found d s) × (oracle_rule d ≡ none) × (code d ≡ b) × (length s ≡ n)
    go none q h = (c, r, refl, q, cc, cc)
    go (some x) q h = let z : ◌≡◌ {A = ℕ} 0 1 = cc in absurd (omega arith)
accepted_by nothing b n e = let z : ◌≡◌ {A = ℕ} 0 1 = cc in absurd (omega arith)

-- a form of few tokens is that of short code
pub short : (b : List ℕ) (s : List Token) → length s ≤ max_tokens → HasForm b s → length b ≤ max_code
short b s l f =
    let few = code_fits f.tree s (parse_encodable b f.tree f.bytes f.well_formed) f.is l in
    rw (← code-parse b f.tree f.bytes f.well_formed) (omega (arith, few))

-- such a tail is found
form-found : (ts : List Token) (n : ℕ) (b : List ℕ) (f : FormAt ts n b) → from_tokens (reverse ts) ≡ found (canon f.form.tree) (reverse (take n ts))
form-found ts n b f =
    let c = f.form.tree in
    let split : reverse ts ≡ reverse (form c) ++ reverse (take n ts) =
    ap reverse (sym (take-append-drop n ts)) ∙ reverse-append (take n ts) (drop n ts)
    ∙ ap (λ (s : List Token). reverse s ++ reverse (take n ts)) (sym f.form.is) in
    ap from_tokens split ∙ arith_reader.own c (reverse (take n ts))

-- so its start is known
start_is : (ts : List Token) (n : ℕ) (b : List ℕ) (f : FormAt ts n b) → length (reverse (take n ts)) ≡ n
start_is ts n b f = let h : n ≤ length ts = omega (arith, f.tail) in length-reverse (take n ts) ∙ length-take-le n ts h

one_tail : (ts : List Token) (m n : ℕ) (a b : List ℕ) → FormAt ts m a → FormAt ts n b → m ≡ n
one_tail ts m n a b f g = cc (form-found ts m a f, form-found ts n b g, start_is ts m a f, start_is ts n b g)

-- and answered as the oracle rule says
pub form-decoded : (ts : List Token) (n : ℕ) (b : List ℕ) (f : FormAt ts n b) → decode ts ≡ unless_ruled (oracle_rule f.form.tree) (canon f.form.tree) n
unfolding decode
form-decoded ts n b f = ap reading (form-found ts n b f) ∙ rw (oracle_rule-canon f.form.tree, start_is ts n b f)

-- and what is found is such a tail
pub found-form : (ts : List Token) → All Sound ts → (c : Arith) (r : List Token) → from_tokens (reverse ts) ≡ found c r
    → (f : FormAt ts (length r) (code c)) × (f.form.tree ≡ c)
found-form ts sound c r e =
    let split : ts ≡ reverse r ++ form c =
    sym (reverse-reverse ts) ∙ ap reverse (reader_sound arith_reader (reverse ts) e) ∙ reverse-append (reverse (form c)) r
    ∙ ap (λ (f : List Token). reverse r ++ f) (reverse-reverse (form c)) in
    let l = length-reverse r in
    let tail = (all_append Sound (reverse r) (form c) (subst (All Sound) split sound)).1 in
    let wide = encodable c tail in (
      record {
        tail = omega (arith, form_long c, l, ap length split ∙ length-append (reverse r) (form c));
        form = record {
          tree = c;
          bytes = code-bytes c wide;
          well_formed = parse-code c wide;
          small = narrow_sound (form c) tail;
          is = sym (ap (drop (length r)) split ∙ drop_at (reverse r) (form c) (length r) l);
        };
      },
      refl,
    )

-- so what is accepted is one that passes
decoded_passing : (ts : List Token) → All Sound ts → (b : List ℕ) (n : ℕ) → decode ts ≡ Reading.accepted b n → PassingAt ts n b
unfolding decode
decoded_passing ts sound b n e =
    let h = accepted_by (from_tokens (reverse ts)) b n e in
    let f = found-form ts sound h.0 h.1 h.2 in
    subst₂ (PassingAt ts) h.5 h.4 (record { at = f.0; passes = ap oracle_rule f.1 ∙ h.3 })

-- conditions of one form
forms_alike : (ts : List Token) → length ts ≤ max_tokens → (a b : List ℕ) → HasForm a ts → HasForm b ts → (l : Lent) → evaluated a l ≡ evaluated b l
unfolding evaluated condition
forms_alike ts few a b f g l =
    let p = le-leb (length a) max_code (short a ts few f) in
    let q = le-leb (length b) max_code (short b ts few g) in
    let e = f.is ∙ sym g.is in
    rw (p, q, f.well_formed, g.well_formed) (judged-alike f.tree g.tree e (reader_one arith_reader f.tree g.tree [] [] (cc)).0 l)

-- DEMAND 3
pub unambiguous : (ts : List Token) → ListUnambiguous ts
unambiguous ts few sound =
    record {
      accepts = (
        λ a. (a.0, a.1, decoded_passing ts sound a.0 a.1 a.2),
        λ f. (code (canon f.2.at.form.tree), f.1, form-decoded ts f.1 f.0 f.2.at ∙ rw f.2.passes),
      );
      one = one_tail ts;
      returned = decoded_passing ts sound;
      alike = λ n. forms_alike (drop n ts) (omega (arith, length-drop n ts));
    }

-- a code that is accepted fits a full-sized buffer
pub decoded-fits : (ts : List Token) → length ts ≤ max_tokens → All Sound ts → (b : List ℕ) (n : ℕ) → decode ts ≡ Reading.accepted b n → length b ≤ max_code
decoded-fits ts few sound b n e = short b (drop n ts) (omega (arith, length-drop n ts)) (decoded_passing ts sound b n e).at.form

-- another decoder that accepts the same has it too
pub unambiguous_as : {A B : List ℕ → ℕ → Type 0} (ts : List Token) → ((b : List ℕ) (n : ℕ) → A b n → B b n) → ((b : List ℕ) (n : ℕ) → B b n → A b n)
    → Unambiguous ts A → Unambiguous ts B
unambiguous_as ts to from u =
    record {
      accepts = (
        λ a. u.accepts.0 (a.0, a.1, from a.0 a.1 a.2),
        λ f. let a = u.accepts.1 f in (a.0, a.1, to a.0 a.1 a.2),
      );
      one = u.one;
      returned = λ b n a. u.returned b n (from b n a);
      alike = u.alike;
    }

-- the call on up to 1,024 sound records, with a full-sized buffer
module _ (r : Records) (old : List ℕ) (few : length r.kinds ≤ max_tokens) (all : unsound r ≡ none) (full : max_code ≤ length old) where
  pub call_decodes : decoded r old ≡ decoded_as old (decode (tokens r))
  unfolding decoded
  call_decodes = rw (le-leb (length r.kinds) max_tokens few, all, le-leb max_code (length old) full)

  call_accepts : (b : List ℕ) (n : ℕ) → DecodeAccepts (tokens r) b n → CallAccepts (decoded r old).answer (decoded r old).buffer b n
  call_accepts b n e = rw (call_decodes, e) (refl, take_at b (drop (length b) old) (length b) refl)

  decode_accepts : (b : List ℕ) (n : ℕ) → CallAccepts (decoded r old).answer (decoded r old).buffer b n → DecodeAccepts (tokens r) b n
  unfolding decode
  decode_accepts b n a = go (decode (tokens r)) (rw call_decodes at a)
    where
      go : (g : Reading) → CallAccepts (decoded_as old g).answer (decoded_as old g).buffer b n → g ≡ Reading.accepted b n
      go (Reading.accepted c m) a =
          let size : length c ≡ length b = ap (λ (d : Decoded). d.bytes) (same_ok a.0) in
          let start : m ≡ n = ap (λ (d : Decoded). d.start) (same_ok a.0) in
          cc (start, take_at c (drop (length c) old) (length b) size, a.1)
      go (Reading.refused x) a = cc

  call_all : Bytes r.keys → All (λ n. n < 2 ^ 64) r.numbers
      → Unambiguous (tokens r) (CallAccepts (decoded r old).answer (decoded r old).buffer)
  call_all bytes wide =
      unambiguous_as (tokens r) call_accepts decode_accepts
      (unambiguous (tokens r) (rw length-tokens few) (tokens_sound r bytes wide all))

-- DEMAND 3, of the call
pub call_unambiguous : (r : Records) (old : List ℕ) → Bytes r.keys → All (λ n. n < 2 ^ 64) r.numbers
    → CallUnambiguous r old (CallAccepts (decoded r old).answer (decoded r old).buffer)
call_unambiguous r old bytes wide few all full = call_all r old few all full bytes wide
