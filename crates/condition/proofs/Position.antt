-- A position in code that Check let pass, after so many commands.
use Rattle.std.proofs.Common.{Ok, Err}
use Prim.Native.Nat.{ℕ, zero, suc, ◌+◌, ◌≤◌, ◌<◌}
use mathlib.Core.Bool.{true}
use mathlib.Core.Path.{◌≡◌, refl, sym, ◌∙◌}
use mathlib.Core.List.{List}
use native.Mathlib.Omega.{arith}
use lib.ListN.{length}
use Rattle.semantics.specs.Code.{known}
use Rattle.summary.specs.declared.Summary.{Summary}
use Rattle.summary.proofs.Bounds.{some_token}
use Rattle.summary.proofs.Rows.{larger_most}
use Rattle.condition.specs.Walk.{next, start, walked}
use Rattle.condition.proofs.Onward.{Onward, onward, so_far}
use Rattle.condition.proofs.Steps.{walk_follows, walk_from}
use Rattle.semantics.specs.Parse.{after, command_at}
use Rattle.semantics.proofs.Instructions.{need-known}

-- what is known of the commands before it is `here`, and of all of them `last`
pub record Position (code : List ℕ) (last here : Summary) (at count : ℕ) : Type 0 where
  pub walk : walk_from code at here ≡ Ok last
  pub few : count ≤ here.tokens
  pub waits : here.values + here.indexes ≤ here.most

pub position_start : (code : List ℕ) (last : Summary) → walked code ≡ Ok last → Position code last start 0 0
unfolding walked
position_start code last e = record { walk = e; few = omega arith; waits = omega arith }

module _ (code : List ℕ) (last here : Summary) (at count : ℕ) (a : Position code last here at count) (inside : at < length code) where
  -- no comparison came before
  pub passes_on : Onward code at here last
  passes_on = onward code at here last a.walk (none here.conditions refl)
    where
      none : (n : ℕ) → here.conditions ≡ n → n ≡ 0
      none zero e = refl
      none (suc n) e =
          let q : Err at ≡ Ok last = sym (walk_follows code at inside here (λ z. omega arith)) ∙ a.walk in
          absurd (let z : ◌≡◌ {A = ℕ} 0 1 = cc in omega arith)

  pub position_known : known (command_at code at) ≡ true
  position_known = need-known (command_at code at) here.values here.indexes passes_on.met

  some : 1 + here.tokens ≤ (next (command_at code at) here).tokens
  some = omega (arith, some_token (command_at code at) position_known)

  -- a command has a token
  pub position_below : count < last.tokens
  position_below = omega (arith, a.few, some, (so_far code (after code at) (next (command_at code at) here) last passes_on.walk).tokens)

  pub position_next : Position code last (next (command_at code at) here) (after code at) (count + 1)
  position_next =
      record {
        walk = passes_on.walk;
        few = omega (arith, a.few, some);
        waits = (larger_most here.most ((next (command_at code at) here).values + (next (command_at code at) here).indexes)).1;
      }
