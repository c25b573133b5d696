-- What the calls know of a condition that 1 to 5 let pass.
use Rattle.std.proofs.Common.{Result, Ok, Err}
use Prim.Native.Nat.{ℕ, ◌*◌, ◌<◌, ◌≤◌}
use mathlib.Core.Bool.{Bool, true, false, cond}
use mathlib.Core.Option.{Option, none, some}
use mathlib.Core.Path.{◌≡◌, refl, sym, ap, ◌∙◌}
use mathlib.Core.Logic.{◌⊎◌, inl, inr}
use mathlib.Core.List.{List, [], ◌∷◌}
use native.Mathlib.Omega.{arith}
use borrow.Author.Tests.{le-leb, leb-false, leb-true, lt-leb, ltb-false, ltb-true}
use lib.ListN.{length}
use lib.Dec.{leb, ltb}
use Rattle.slices.specs.Bytes.{Bytes}
use Rattle.semantics.proofs.Results.{same_ok}
use Rattle.semantics.specs.Check.{Checked, Condition, answered, checked, condition, judged, judged_parsed, passed_unless}
use Rattle.semantics.specs.Code.{code, max_code, max_tokens}
use Rattle.semantics.specs.Oracle.{oracle_rule, oracles}
use Rattle.semantics.specs.Parse.{Parsed, parse}
use Rattle.semantics.specs.Refusals.{Refusal, first_of, unless}
use Rattle.semantics.specs.Token.{form}
use Rattle.semantics.specs.Trees.{Arith}
use Rattle.semantics.proofs.Encodable.{Encodable}
use Rattle.semantics.proofs.CodeParse.{code-parse, parse_encodable}
use Rattle.semantics.proofs.CodeSize.{code_fits}

pub record Passing (b : List ℕ) (a : Arith) : Type 0 where
  pub encodable : Encodable a
  pub coded : code a ≡ b
  pub few : length (form a) ≤ max_tokens
  pub rule : oracle_rule a ≡ none

-- Check's answer tells whether the condition passes
pub answered-refused : (k : Condition) (r : Refusal) → answered k ≡ Err r → k ≡ Condition.refused r
answered-refused (Condition.refused s) r e = cc
answered-refused (Condition.passed a) r e = cc

pub answered-passed : (k : Condition) (n m : ℕ) → answered k ≡ Ok (record { tokens = n; oracles = m })
    → (a : Arith) × (k ≡ Condition.passed a) × (length (form a) ≡ n) × (oracles a ≡ m)
answered-passed (Condition.refused s) n m e = absurd (let z : ◌≡◌ {A = ℕ} 0 1 = cc in omega arith)
answered-passed (Condition.passed a) n m e = (a, refl, ap (λ (c : Checked). c.tokens) (same_ok e), ap (λ (c : Checked). c.oracles) (same_ok e))

not_long : (t : Bool) (k : Condition) (a : Arith) → cond t k (Condition.refused Refusal.CodeTooLong) ≡ Condition.passed a
    → (t ≡ true) × (k ≡ Condition.passed a)
not_long true k a e = (refl, e)
not_long false k a e = (cc, cc)

parsed : (p : Parsed) (a : Arith) → judged_parsed p ≡ Condition.passed a → (c : Arith) × (p ≡ Parsed.tree c) × (judged c ≡ Condition.passed a)
parsed (Parsed.malformed at) a e = absurd (let z : ◌≡◌ {A = ℕ} 0 1 = cc in omega arith)
parsed (Parsed.tree c) a e = (c, refl, e)

judged-passed : (c a : Arith) (t : Bool) (r : Option Refusal)
    → passed_unless (first_of (unless t Refusal.TooManyTokens ∷ r ∷ [])) c ≡ Condition.passed a → (c ≡ a) × (t ≡ true) × (r ≡ none)
judged-passed c a true none e = (cc, refl, refl)
judged-passed c a true (some r) e = (cc, refl, cc)
judged-passed c a false r e = (cc, cc, cc)

pub passing : (b : List ℕ) → Bytes b → (a : Arith) → condition b ≡ Condition.passed a → Passing b a
unfolding condition judged
passing b h a e =
    let p = not_long (leb (length b) max_code) (judged_parsed (parse b)) a e in
    let q = parsed (parse b) a p.1 in
    let j = judged-passed q.0 a (leb (length (form q.0)) max_tokens) (oracle_rule q.0) q.2 in
    rw (← j.0) (record {
      encodable = parse_encodable b q.0 h q.1;
      coded = code-parse b q.0 h q.1;
      few = leb-true (length (form q.0)) max_tokens j.1;
      rule = j.2;
    })

-- what Check's answer tells of code that it lets pass: t tokens, m oracle terminals
pub record Passed (b : List ℕ) (t m : ℕ) : Type 0 where
  pub tree : Arith
  pub is : condition b ≡ Condition.passed tree
  pub tokens : length (form tree) ≡ t
  pub terminals : oracles tree ≡ m
  pub told : Passing b tree

pub passed : (b : List ℕ) → Bytes b → (t m : ℕ) → checked b ≡ Ok (record { tokens = t; oracles = m }) → Passed b t m
unfolding checked
passed b h t m e =
    let k = answered-passed (condition b) t m e in
    record { tree = k.0; is = k.1; tokens = k.2; terminals = k.3; told = passing b h k.0 k.1 }

-- The order of refusals where an input shows it that is too long to compute: 1 before 2 to 5, and 3 before 4 and 5.
pub too_long : (b : List ℕ) → max_code < length b → condition b ≡ Condition.refused Refusal.CodeTooLong
unfolding condition
too_long b h = rw (lt-leb (length b) max_code h)

-- code that passes is not
pub passed_short : (b : List ℕ) (t m : ℕ) → checked b ≡ Ok (record { tokens = t; oracles = m }) → length b ≤ max_code
unfolding checked
passed_short b t m e = go (leb (length b) max_code) refl
  where
    go : (x : Bool) → leb (length b) max_code ≡ x → length b ≤ max_code
    go true q = leb-true (length b) max_code q
    go false q =
        let r : ◌≡◌ {A = Result Checked Refusal} (Err Refusal.CodeTooLong) (Ok (record { tokens = t; oracles = m })) = ap answered (sym (too_long b (leb-false (length b) max_code q))) ∙ e in
        absurd (let z : ◌≡◌ {A = ℕ} 0 1 = cc in omega arith)

pub too_many : (a : Arith) → max_tokens < length (form a) → judged a ≡ Condition.refused Refusal.TooManyTokens
unfolding judged
too_many a h = rw (lt-leb (length (form a)) max_tokens h)

-- More than 5,120 bytes are too long for a condition of up to 1,024 tokens: what 1 lets pass of them, 2 or 3 refuses.
pub long_code : (b : List ℕ) → Bytes b → 5 * max_tokens < length b → length b ≤ max_code
    → ((offset : ℕ) × (condition b ≡ Condition.refused (Refusal.NotWellFormed offset))) ⊎ (condition b ≡ Condition.refused Refusal.TooManyTokens)
unfolding condition
long_code b bytes long within = rw (le-leb (length b) max_code within) (by (parse b) refl)
  where
    by : (p : Parsed) → parse b ≡ p
        → ((offset : ℕ) × (judged_parsed p ≡ Condition.refused (Refusal.NotWellFormed offset))) ⊎ (judged_parsed p ≡ Condition.refused Refusal.TooManyTokens)
    by (Parsed.malformed offset) e = inl (offset, refl)
    by (Parsed.tree a) e = inr (too_many a (over (ltb max_tokens (length (form a))) refl))
      where
        over : (t : Bool) → ltb max_tokens (length (form a)) ≡ t → max_tokens < length (form a)
        over true h = ltb-true max_tokens (length (form a)) h
        over false h =
            let few = code_fits a (form a) (parse_encodable b a bytes e) refl (ltb-false max_tokens (length (form a)) h) in
            absurd (omega (arith, few, long, ap length (code-parse b a bytes e)))
