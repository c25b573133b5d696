-- EVALUATE, of the contents of its slices: what it answers, and what the buffer for the checks holds then.
use Rattle.std.specs.Prelude.{ℕ, ◌*◌, Bool, true, ◌&&◌, List, [], ◌∷◌, reverse, length, eqb, leb, Ok, Err}
use Rattle.std.proofs.Math.Option.{Option, none, some}
use Rattle.std.proofs.Math.Seq.{slice}
use Rattle.slices.specs.Bytes.{over}
use Rattle.semantics.specs.Trees.{Arith}
use Rattle.semantics.specs.Refusals.{Refusal, first_of, unless}
use Rattle.semantics.specs.Oracle.{oracles}
use Rattle.semantics.specs.Evaluation.{Amounts, Env, State, Outcome, ok, err, check_size, eval_arith, popping}
use Rattle.semantics.specs.Check.{Condition, condition}
pub use Rattle.semantics.specs.declared.Evaluated.{Evaluated}

-- what Evaluate is lent beside the code: amounts and current index, witness bytes with the elements' ends, and room for the checks
pub record Lent : Type 0 where
  pub env : Env
  pub witness : List ℕ
  pub ends : List ℕ
  pub buffer : List ℕ

-- 8: "a list's numbers and marks differ in count, a mark is not 0 or 1, or the spent, issued and reissuance lists .. differ in length"
abbrev pub are_marks : List ℕ → Bool
are_marks [] = true
are_marks (m ∷ ms) = leb m 1 && are_marks ms

abbrev pub paired : Amounts → Bool
paired a = eqb (length a.numbers) (length a.marks) && are_marks a.marks

abbrev pub env_sound : Env → Bool
env_sound env =
    paired env.spent && paired env.outputs && paired env.issued && paired env.reissued
    && eqb (length env.issued.numbers) (length env.spent.numbers)
    && eqb (length env.reissued.numbers) (length env.spent.numbers)

-- 12: "witness ends fall, or pass its bytes"
abbrev pub ends_sound : ℕ → ℕ → List ℕ → Bool
ends_sound start size [] = true
ends_sound start size (e ∷ es) = leb start e && leb e size && ends_sound e size es

-- "Witness: bytes and a list of 32-bit ends, bottom first"
abbrev pub elements : ℕ → List ℕ → List ℕ → List (List ℕ)
elements start bytes [] = []
elements start bytes (e ∷ es) = slice start e bytes ∷ elements e bytes es

-- before the first step: no checks, all elements left, the top first
unfoldable pub initial : Lent → State
initial l = record { checks = 0; written = []; left = reverse (elements 0 l.witness l.ends) }

-- what is given back, and the buffer then
pub record Evaluation : Type 0 where
  pub answer : Evaluated
  pub buffer : List ℕ

abbrev pub ended : List ℕ → Outcome State Bool → Evaluation
ended old (ok v st) =
    record { answer = record { verdict = Ok v; checks = st.checks; left = length st.left }; buffer = over st.written old }
ended old (err r st) =
    record { answer = record { verdict = Err r; checks = st.checks; left = length st.left }; buffer = over st.written old }

-- "for 1 to 12 these are 0 and all"
abbrev pub refused_call : Refusal → Lent → Evaluation
refused_call r l = record { answer = record { verdict = Err r; checks = 0; left = length l.ends }; buffer = l.buffer }

abbrev pub unless_refused : Option Refusal → Lent → Evaluation → Evaluation
unless_refused none l e = e
unless_refused (some r) l e = refused_call r l

-- "then 8, 12 in Evaluate; then 7": "under 112 × n bytes"
unfoldable pub evaluated_tree : Arith → Lent → Evaluation
evaluated_tree a l =
    unless_refused
    (first_of
    (unless (env_sound l.env) Refusal.AmountsUnsound ∷ unless (ends_sound 0 (length l.witness) l.ends) Refusal.WitnessUnsound
    ∷ unless (leb (check_size * oracles a) (length l.buffer)) Refusal.BufferTooShort ∷ []))
    l (ended l.buffer (eval_arith popping l.env a (initial l)))

abbrev pub evaluated_by : Condition → Lent → Evaluation
evaluated_by (Condition.refused r) l = refused_call r l
evaluated_by (Condition.passed a) l = evaluated_tree a l

unfoldable pub evaluated : List ℕ → Lent → Evaluation
evaluated b l = evaluated_by (condition b) l
