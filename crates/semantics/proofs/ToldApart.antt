-- R-2: what 4, 5 and 11 say of the tokens: `told_apart`, of every list of up to 1,024 sound tokens, and `call_told_apart`, of the call on records.
use Prim.Native.Nat.{ℕ, ◌≤◌, ◌<◌, ◌^◌}
use mathlib.Core.Bool.{Bool, true, false, cond}
use mathlib.Core.Logic.{◌⊎◌, inl, inr}
use mathlib.Core.Option.{Option, none, some}
use mathlib.Core.Path.{◌≡◌, refl}
use mathlib.Core.List.{List, [], ◌∷◌, ◌++◌, reverse}
use native.Mathlib.Omega.{arith}
use borrow.Author.Tests.{le-leb}
use lib.ListN.{length, drop, length-drop}
use Rattle.slices.specs.Bytes.{All, Bytes}
use Rattle.semantics.specs.Check.{answered, checked, condition, judged, passed_unless}
use Rattle.semantics.specs.Code.{code, max_code, max_tokens}
use Rattle.semantics.specs.Decode.{Reading, decode, decoded, decoded_as, reading, unless_ruled}
use Rattle.semantics.specs.FromTokens.{Found, found, from_tokens, nothing}
use Rattle.semantics.specs.Meaning.{CallToldApart, FormAt, ListToldApart, Sound, TurnedDownAt, checked_number, decoded_number, reading_number}
use Rattle.semantics.specs.Oracle.{Terminal, among, oracle_rule, rule, terminals}
use Rattle.semantics.specs.Records.{Records, tokens}
use Rattle.semantics.specs.Refusals.{Refusal, first_of, numbered}
use Rattle.semantics.specs.Token.{Token, form}
use Rattle.semantics.specs.Trees.{Arith}
use Rattle.semantics.proofs.Canon.{canon}
use Rattle.semantics.proofs.Meaning.{call_decodes, form-decoded, found-form, short}
use Rattle.semantics.proofs.Records.{length-tokens, tokens_sound}

abbrev FourOrFive : ℕ → Type 0
FourOrFive n = (n ≡ 4) ⊎ (n ≡ 5)

between : (n : ℕ) → FourOrFive n → (4 ≤ n) × (n ≤ 5)
between n (inl e) = (omega (arith, e), omega (arith, e))
between n (inr e) = (omega (arith, e), omega (arith, e))

-- the oracle rule turns down with 4 or 5
rule-number : (c : Arith) (x : Refusal) → oracle_rule c ≡ some x → FourOrFive (numbered x).number
unfolding oracle_rule
rule-number (Arith.Compare o l r) x = go (terminals l) (terminals r)
  where
    five : (b : Bool) → cond b (some Refusal.PriceOracle1Missing) none ≡ some x → FourOrFive (numbered x).number
    five true e = inr (cc)
    five false e = let z : ◌≡◌ {A = ℕ} 0 1 = cc in absurd (omega arith)

    go : (ls rs : List Terminal) → rule ls rs ≡ some x → FourOrFive (numbered x).number
    go [] rs e = five (among rs) e
    go (Terminal.Other ∷ ls) rs e = five (among (ls ++ rs)) e
    go (Terminal.PriceOracle1 ∷ ls) rs e = five (among (ls ++ rs)) e
    go (Terminal.PriceOracle1W ∷ ls) rs e = inl (cc)

module _ (ts : List Token) (few : length ts ≤ max_tokens) (sound : All Sound ts) where
  abbrev number : ℕ
  number = reading_number (decode ts)

  -- where a tail is the form of a condition, Decode and Check both go by the rule
  as_check : (b : List ℕ) (n : ℕ) → FormAt ts n b → number ≡ checked_number (checked b)
  unfolding checked condition judged
  as_check b n f =
      let c = f.form.tree in
      let m : length (drop n ts) ≤ max_tokens = omega (arith, length-drop n ts) in
      let k : length (form c) ≤ max_tokens = rw f.form.is m in
      rw (form-decoded ts n b f, le-leb (length b) max_code (short b (drop n ts) m f.form), f.form.well_formed, le-leb (length (form c)) max_tokens k) (go (oracle_rule c))
    where
      go : (o : Option Refusal) → reading_number (unless_ruled o (canon f.form.tree) n) ≡ checked_number (answered (passed_unless (first_of (o ∷ [])) f.form.tree))
      go none = refl
      go (some x) = refl

  -- so it is answered 0, or it is turned down with 4 or 5
  turned_down : (b : List ℕ) (n : ℕ) → TurnedDownAt ts n b → FourOrFive number
  turned_down b n t = rw (form-decoded ts n b t.at, t.turned) (rule-number t.at.form.tree t.refusal t.turned)

  passes_or_not : (b : List ℕ) (n : ℕ) → FormAt ts n b → (number ≡ 0) ⊎ TurnedDownAt ts n b
  passes_or_not b n f = go (oracle_rule f.form.tree) refl
    where
      go : (o : Option Refusal) → oracle_rule f.form.tree ≡ o → (number ≡ 0) ⊎ TurnedDownAt ts n b
      go none e = inl (rw (form-decoded ts n b f, e))
      go (some x) e = inr (record { at = f; refusal = x; turned = e })

  not_11 : (b : List ℕ) (n : ℕ) → FormAt ts n b → number ≡ 11 → ⊥
  not_11 b n f e = go (passes_or_not b n f)
    where
      go : (number ≡ 0) ⊎ TurnedDownAt ts n b → ⊥
      go (inl h) = omega (arith, e, h)
      go (inr t) = omega (arith, e, between number (turned_down b n t))

  -- and where none is, 11
  read_or_11 : ((b : List ℕ) × (n : ℕ) × FormAt ts n b) ⊎ (number ≡ 11)
  unfolding decode
  read_or_11 = go (from_tokens (reverse ts)) refl
    where
      go : (g : Found Arith) → from_tokens (reverse ts) ≡ g → ((b : List ℕ) × (n : ℕ) × FormAt ts n b) ⊎ (reading_number (reading g) ≡ 11)
      go (found c r) e = inl (code c, length r, (found-form ts sound c r e).0)
      go nothing e = inr refl

  readable : FourOrFive number → (b : List ℕ) × (n : ℕ) × TurnedDownAt ts n b
  readable h = go read_or_11
    where
      ruled : (b : List ℕ) (n : ℕ) → (number ≡ 0) ⊎ TurnedDownAt ts n b → (b : List ℕ) × (n : ℕ) × TurnedDownAt ts n b
      ruled b n (inl e) = absurd (omega (arith, e, between number h))
      ruled b n (inr t) = (b, n, t)

      go : ((b : List ℕ) × (n : ℕ) × FormAt ts n b) ⊎ (number ≡ 11) → (b : List ℕ) × (n : ℕ) × TurnedDownAt ts n b
      go (inl f) = ruled f.0 f.1 (passes_or_not f.0 f.1 f.2)
      go (inr e) = absurd (omega (arith, e, between number h))

  unreadable : ((b : List ℕ) (n : ℕ) → FormAt ts n b → ⊥) → number ≡ 11
  unreadable never = go read_or_11
    where
      go : ((b : List ℕ) × (n : ℕ) × FormAt ts n b) ⊎ (number ≡ 11) → number ≡ 11
      go (inl f) = absurd (never f.0 f.1 f.2)
      go (inr e) = e

-- R-2
pub told_apart : (ts : List Token) → ListToldApart ts
told_apart ts few sound =
    record {
      ruled = (readable ts few sound, λ t. turned_down ts few sound t.0 t.1 t.2);
      as_check = as_check ts few sound;
      unread = (λ e b n f. not_11 ts few sound b n f e, unreadable ts few sound);
    }

-- R-2, of the call
pub call_told_apart : (r : Records) (old : List ℕ) → Bytes r.keys → All (λ n. n < 2 ^ 64) r.numbers → CallToldApart r old (decoded_number (decoded r old).answer)
call_told_apart r old bytes wide few all full =
    rw (call_decodes r old few all full, same (decode (tokens r))) (told_apart (tokens r) (rw length-tokens few) (tokens_sound r bytes wide all))
  where
    same : (g : Reading) → decoded_number (decoded_as old g).answer ≡ reading_number g
    same (Reading.accepted b n) = refl
    same (Reading.refused x) = refl
