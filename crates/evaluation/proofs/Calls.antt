-- What Evaluate answers, by Check's answer, the tests that follow it, and the run.
use Rattle.std.proofs.Common.{Fits, w8, get_or, Ok, Err}
use Prim.Native.Nat.{ℕ, ◌*◌, ◌≤◌, ◌<◌}
use mathlib.Core.Path.{◌≡◌}
use mathlib.Core.Bool.{Bool, true, false}
use mathlib.Core.List.{List, [], ◌∷◌}
use borrow.Author.Tests.{le-leb, lt-leb}
use lib.Dec.{leb}
use lib.ListN.{length}
use lib.Seq.{take-length}
use Rattle.semantics.specs.Refusals.{first_of, unless}
use Rattle.semantics.specs.declared.Refusal.{Refusal}
use Rattle.semantics.specs.Check.{checked, condition}
use Rattle.semantics.specs.Evaluate.{Evaluation, Lent, ended, ends_sound, env_sound, evaluated, evaluated_tree, initial, refused_call, unless_refused}
use Rattle.semantics.specs.Evaluation.{eval_arith, popping}
use Rattle.semantics.specs.Parse.{fold, instructions}
use Rattle.semantics.proofs.Passing.{Passed, answered-refused, passed}
use Rattle.slices.proofs.Bytes.{all_of}
use Rattle.summary.specs.declared.Summary.{Summary}
use Rattle.condition.specs.Walk.{examined}
use Rattle.condition.proofs.Onward.{told}
use Rattle.amounts.specs.declared.Transaction.{Transaction}
use Rattle.amounts.specs.Transactions.{env_in}
use Rattle.stacks.proofs.Run.{run_code}
use Rattle.witness.specs.Elements.{left_of, state_of}
use Rattle.evaluation.specs.Run.{Answers}
use Rattle.stacks.specs.Run.{Run, run_step}

-- before the first step
initial_state : (l : Lent) → state_of l.witness l.ends l.buffer (length l.ends) 0 ≡ initial l
unfolding initial left_of
initial_state l = rw (take-length l.ends)

-- what Evaluate is lent beside the code
abbrev pub lent : Transaction → List ℕ → List ℕ → List ℕ → Lent
lent t witness ends buffer = record { env = env_in t; witness = witness; ends = ends; buffer = buffer }

-- 1 to 5
pub refused-first : (b : List ℕ) (l : Lent) (r : Refusal) → examined b ≡ Err r → refused_call r l ≡ evaluated b l
unfolding checked evaluated
refused-first b l r e = rw (answered-refused (condition b) r (told b (Err r) e))

-- a condition that passes is a tree
module _ (b : List ℕ) (fits : (i : ℕ) → Fits w8 (get_or b i 0)) (l : Lent) (s : Summary) (knows : examined b ≡ Ok s) where
  known : Passed b s.tokens s.oracles
  known = passed b (all_of (λ x. x < 256) b 0 (λ i. (fits i).fits)) s.tokens s.oracles (told b (Ok s) knows)

  abbrev sized : Bool
  sized = leb (112 * s.oracles) (length l.buffer)

  -- 8, then 12, then 7
  abbrev guarded : Bool → Bool → Bool → Evaluation
  guarded amounts ends room =
      unless_refused (first_of (unless amounts Refusal.AmountsUnsound ∷ unless ends Refusal.WitnessUnsound ∷ unless room Refusal.BufferTooShort ∷ [])) l
      (ended l.buffer (eval_arith popping l.env known.tree (initial l)))

  guards : evaluated b l ≡ guarded (env_sound l.env) (ends_sound 0 (length l.witness) l.ends) sized
  unfolding evaluated evaluated_tree
  guards = rw (known.is, known.terminals)

  pub refused-amounts : false ≡ env_sound l.env → refused_call Refusal.AmountsUnsound l ≡ evaluated b l
  refused-amounts p = rw (guards, ← p)

  pub refused-witness : true ≡ env_sound l.env → ends_sound 0 (length l.witness) l.ends ≡ false → refused_call Refusal.WitnessUnsound l ≡ evaluated b l
  refused-witness p q = rw (guards, ← p, q)

  module _ (p : true ≡ env_sound l.env) (q : ends_sound 0 (length l.witness) l.ends ≡ true) where
    pub refused_buffer : length l.buffer < 112 * s.oracles → refused_call Refusal.BufferTooShort l ≡ evaluated b l
    refused_buffer h = rw (guards, ← p, q, lt-leb (112 * s.oracles) (length l.buffer) h)

    pub answers : 112 * s.oracles ≤ length l.buffer → (e : Evaluation)
        → Answers l.buffer (fold (run_step popping l.env) (Run.going [] [] (state_of l.witness l.ends l.buffer (length l.ends) 0)) (instructions b)) e
        → e ≡ evaluated b l
    answers h e r =
        let k = known.told in
        let t = rw (initial_state l, ← k.coded, run_code popping l.env known.tree k.encodable (initial l)) at r in
        rw (guards, ← p, q, le-leb (112 * s.oracles) (length l.buffer) h) t
