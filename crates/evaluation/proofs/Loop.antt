-- What the loop over the commands keeps, and how it ends.
use Rattle.std.proofs.Common.{◌≡◌, ℕ, suc, ◌+◌, ◌-◌, ◌*◌, ◌≤◌, ◌<◌, Bool, true, List, [], ◌∷◌, length, take, drop, refl, sym, ap, ◌∙◌, arith, ℤ, pos, length-drop, Option, Some, None, Result, Ok, Err}
use lib.ListN.{take-append-drop}
use lib.Seq.{drop-drop, length-take-le}
use Rattle.slices.specs.Bytes.{bytes_value, over}
use Rattle.index64.specs.Steps.{in_range}
use Rattle.semantics.specs.declared.AmountList.{AmountList}
use Rattle.semantics.specs.declared.Command.{Command}
use Rattle.semantics.specs.declared.Refusal.{Refusal}
use Rattle.semantics.specs.Code.{command_row, need_met}
use Rattle.semantics.specs.Evaluate.{ended}
use Rattle.semantics.specs.Evaluation.{Env, Outcome, State, Terminals, err, looked_up, ok, outcome, popping}
use Rattle.semantics.specs.Operations.{bin_row, idx_row, un_row}
use Rattle.semantics.specs.Parse.{Instruction, after, command_at, fold, instructions, operands_at}
use Rattle.semantics.proofs.Machine.{fold_takes}
use Rattle.summary.specs.declared.Summary.{Summary}
use Rattle.summary.proofs.Bounds.{oracles_grow}
use Rattle.condition.specs.Walk.{Passed, counted, fold_terminals, next, start}
use Rattle.condition.proofs.Onward.{Onward, inside, so_far}
use Rattle.condition.proofs.Position.{Position, passes_on, position_next, position_start}
use Rattle.witness.specs.declared.Progress.{Progress}
use Rattle.witness.specs.Elements.{state_of}
use Rattle.witness.proofs.Left.{left-count}
use Rattle.stacks.specs.Run.{Run, act, look_at, moved, on_index, on_value, operand, push_value, run_step}
use Rattle.stacks.specs.Stacks.{Ready, Waiting}
use Rattle.stacks.proofs.Run.{value-moved}
use Rattle.evaluation.specs.Run.{Answers, Moves, Room, Supplied, run_of}

-- ---- how many wait after a command that goes on

module _ {S : Type 0} (t : Terminals S) (env : Env) (s : Summary) where
  abbrev Counted : Command → Run S → Type 0
  Counted c (Run.going vs is st) = ((next c s).values ≡ length vs) × ((next c s).indexes ≡ length is) × ((next c s).conditions ≡ s.conditions)
  Counted c (Run.stopped o) = Unit {0}

  outcome-counted : (c : Command) (vs is : List ℤ) → (next c s).values ≡ length vs + 1 → (next c s).indexes ≡ length is → (next c s).conditions ≡ s.conditions
      → (o : Outcome S ℤ) → Counted c (push_value vs is o)
  outcome-counted c vs is p q r (ok z st) = (omega (arith, p), q, r)
  outcome-counted c vs is p q r (err x st) = tt

  value-counted : (c : Command) (vs is : List ℤ) (st : S) → (next c s).values ≡ length vs + 1 → (next c s).indexes ≡ length is
      → (next c s).conditions ≡ s.conditions → (v : Result ℤ Refusal) → Counted c (moved t env st (on_value vs is v))
  value-counted c vs is st p q r v = rw (value-moved t env vs is st v) (outcome-counted c vs is p q r (outcome v st))

  index-counted : (c : Command) (vs is : List ℤ) (st : S) → (next c s).values ≡ length vs → (next c s).indexes ≡ length is + 1
      → (next c s).conditions ≡ s.conditions → (i : Option ℤ) → Counted c (moved t env st (on_index vs is i))
  index-counted c vs is st p q r (Some z) = (p, omega (arith, q), r)
  index-counted c vs is st p q r None = tt

  look_counted : (c : Command) (vs is : List ℤ) (st : S) → (next c s).values ≡ length vs + 1 → (next c s).indexes ≡ length is
      → (next c s).conditions ≡ s.conditions → (l : AmountList) (i : Option ℤ) → Counted c (moved t env st (look_at l vs is i))
  look_counted c vs is st p q r l (Some z) = outcome-counted c vs is p q r (looked_up t env l (Some z) st)
  look_counted c vs is st p q r l None = tt

  acts_counted : (c : Command) (n : List ℕ) (vs is : List ℤ) (st : S) → s.values ≡ length vs → s.indexes ≡ length is
      → need_met (command_row c) (length vs) (length is) ≡ true → Counted c (act t env c n vs is st)
  acts_counted Command.Unknown n vs is st p q e = absurd (let z : ◌≡◌ {A = ℕ} 0 1 = cc in omega arith)
  acts_counted Command.IdxConst n vs is st p q e =
      index-counted Command.IdxConst vs is st (omega (arith, p)) (omega (arith, q)) (omega arith) (in_range (pos (bytes_value n)))
  acts_counted Command.CurrIdx n vs is st p q e =
      index-counted Command.CurrIdx vs is st (omega (arith, p)) (omega (arith, q)) (omega arith) (in_range (pos env.current))
  acts_counted (Command.Index o) n vs is st p q e =
      index-counted (Command.Index o) vs (drop 2 is) st (omega (arith, p)) (omega (arith, q, length-drop 2 is)) (omega arith)
      ((idx_row o).result (operand is 1) (operand is 0))
  acts_counted Command.Const n vs is st p q e = (omega (arith, p), omega (arith, q), omega arith)
  acts_counted Command.CurrInputIdx n vs is st p q e =
      look_counted Command.CurrInputIdx vs is st (omega (arith, p)) (omega (arith, q)) (omega arith) AmountList.Input (in_range (pos env.current))
  acts_counted (Command.Lookup l) n vs is st p q e =
      look_counted (Command.Lookup l) vs (drop 1 is) st (omega (arith, p)) (omega (arith, q, length-drop 1 is)) (omega arith) l (Some (operand is 0))
  acts_counted (Command.Binary o) n vs is st p q e =
      value-counted (Command.Binary o) (drop 2 vs) is st (omega (arith, p, length-drop 2 vs)) (omega (arith, q)) (omega arith) ((bin_row o).result (operand vs 1) (operand vs 0))
  acts_counted (Command.Unary o) n vs is st p q e =
      value-counted (Command.Unary o) (drop 1 vs) is st (omega (arith, p, length-drop 1 vs)) (omega (arith, q)) (omega arith) ((un_row o).result (operand vs 0))
  acts_counted Command.PriceOracle1 n vs is st p q e =
      outcome-counted Command.PriceOracle1 vs is (omega (arith, p)) (omega (arith, q)) (omega arith) (t.oracle (take 32 n) (bytes_value (drop 32 n)) st)
  acts_counted Command.PriceOracle1W n vs is st p q e =
      outcome-counted Command.PriceOracle1W vs is (omega (arith, p)) (omega (arith, q)) (omega arith) (t.oracle (take 32 n) (bytes_value (drop 32 n)) st)
  acts_counted (Command.Compare o) n vs is st p q e = tt

-- ---- the run

stays : (env : Env) (o : Outcome State Bool) (ns : List Instruction) → fold (run_step popping env) (Run.stopped o) ns ≡ Run.stopped o
stays env o [] = refl
stays env o (n ∷ ns) = stays env o ns

-- the checks at the front of a buffer whose rest is as it was
over-kept : (k : ℕ) (new old : List ℕ) → 112 * k ≤ length new → drop (112 * k) new ≡ drop (112 * k) old → over (take (112 * k) new) old ≡ new
over-kept k new old h e = rw (length-take-le (112 * k) new h, ← e) (take-append-drop (112 * k) new)

-- bytes that were kept after so many checks are kept after more
kept_later : (j k : ℕ) (new old : List ℕ) → j ≤ k → drop (112 * j) new ≡ drop (112 * j) old → drop (112 * k) new ≡ drop (112 * k) old
kept_later j k new old h e =
    let s : 112 * j + 112 * (k - j) ≡ 112 * k = omega arith in
    let d : (l : List ℕ) → drop (112 * (k - j)) (drop (112 * j) l) ≡ drop (112 * k) l = λ l. rw s at (drop-drop (112 * (k - j)) (112 * j) l) in
    sym (d new) ∙ ap (drop (112 * (k - j))) e ∙ d old

-- what the loop keeps: these operands wait and so many checks are listed, and the run goes from here where it goes from the start
pub record Loop (env : Env) (code witness ends out₀ out : List ℕ) (values indexes : Waiting) (p : Progress) (at : ℕ) : Type 0 where
  pub last : Summary
  pub room : Room values.room indexes.room (length out) last
  pub here : Summary
  pub commands : ℕ
  pub position : Position code last here at commands
  pub values_are : here.values ≡ length values.operands
  pub indexes_are : here.indexes ≡ length indexes.operands
  pub going : here.conditions ≡ 0
  pub made : p.checks ≤ here.oracles
  pub few : p.left ≤ length ends
  pub kept : drop (112 * p.checks) out ≡ drop (112 * p.checks) out₀
  pub runs : fold (run_step popping env) (Run.going values.operands indexes.operands (state_of witness ends out p.left p.checks)) (instructions (drop at code))
      ≡ fold (run_step popping env) (Run.going [] [] (state_of witness ends out₀ (length ends) 0)) (instructions code)

module _ {env : Env} {code witness ends out₀ : List ℕ} where
  pub loop_start : (values indexes : Waiting) (p : Progress) → Passed code (Room values.room indexes.room (length out₀)) → values.operands ≡ [] → indexes.operands ≡ []
      → p ≡ record { left = length ends; checks = 0 } → Loop env code witness ends out₀ out₀ values indexes p 0
  loop_start values indexes p f v i e =
      record {
        last = f.last;
        room = f.known;
        here = start;
        commands = 0;
        position = position_start code f.last f.walk;
        values_are = rw v;
        indexes_are = rw i;
        going = refl;
        made = rw e (omega arith);
        few = rw e (omega arith);
        kept = refl;
        runs = rw (v, i, e);
      }

  module _ {out : List ℕ} {values indexes : Waiting} {p : Progress} {at : ℕ} (l : Loop env code witness ends out₀ out values indexes p at) where
    abbrev command : Command
    command = command_at code at

    pub loop_inside : at < length code
    loop_inside = inside code at l.here l.last l.position.walk l.going

    passed_on : Onward code at l.here l.last
    passed_on = passes_on code l.last l.here at l.commands l.position loop_inside

    pub loop_operands : at + 1 + (command_row command).width ≤ length code
    loop_operands = passed_on.operands

    met : need_met (command_row command) (length values.operands) (length indexes.operands) ≡ true
    met = rw (l.values_are, l.indexes_are) at passed_on.met

    pub loop_ready : Ready command values indexes
    loop_ready =
        let below = (so_far code at l.here l.last l.position.walk).most in
        let waits : length values.operands + length indexes.operands ≤ l.here.most = omega (arith, l.position.waits, l.values_are, l.indexes_are) in
        record { met = met; values_fit = omega (arith, below, waits, l.room.0); indexes_fit = omega (arith, below, waits, l.room.1) }

    -- the check of an oracle terminal is counted in
    listed : fold_terminals counted p.checks (command_row command).terminals ≤ l.last.oracles
    listed =
        omega (
          arith,
          (oracles_grow (command_row command).terminals p.checks l.here.oracles l.made).1,
          (so_far code (after code at) (next command l.here) l.last passed_on.walk).oracles,
        )

    pub loop_supplied : Supplied command ends out p
    loop_supplied = record { room = omega (arith, l.room.2, listed); few = l.few }

    -- one turn of it, by what `act` promises of the command k with n operand bytes
    module _ (k : Command) (is : k ≡ command) (n : ℕ) (wide : n ≡ (command_row k).width) (out' : List ℕ) (values' indexes' : Waiting) (p' : Progress)
        (r : Result (Option Bool) Refusal) (moves : Moves k out out' p p')
        (acts : run_of values'.operands indexes'.operands (state_of witness ends out' p'.left p'.checks) r
        ≡ act popping env k (take (at + 1 + n - (at + 1)) (drop (at + 1) code)) values.operands indexes.operands (state_of witness ends out p.left p.checks))
        (same : length out' ≡ length out) where
      m : Moves command out out' p p'
      m = rw is at moves

      e : run_of values'.operands indexes'.operands (state_of witness ends out' p'.left p'.checks) r
          ≡ act popping env command (operands_at code at) values.operands indexes.operands (state_of witness ends out p.left p.checks)
      e =
          let one : suc at ≡ at + 1 = omega arith in
          let w : n ≡ (command_row command).width = rw is at wide in
          let width : at + 1 + n - (at + 1) ≡ (command_row command).width = omega (arith, w) in
          rw one (rw (width, is) at acts)

      kept-now : drop (112 * p'.checks) out' ≡ drop (112 * p'.checks) out₀
      kept-now = m.kept ∙ kept_later p.checks p'.checks out out₀ m.more l.kept

      turned : fold (run_step popping env) (run_of values'.operands indexes'.operands (state_of witness ends out' p'.left p'.checks) r)
          (instructions (drop (after code at) code))
          ≡ fold (run_step popping env) (Run.going [] [] (state_of witness ends out₀ (length ends) 0)) (instructions code)
      turned =
          ap (λ (r : Run State). fold (run_step popping env) r (instructions (drop (after code at) code))) e
          ∙ sym (fold_takes (run_step popping env) code at loop_inside (Run.going values.operands indexes.operands (state_of witness ends out p.left p.checks)))
          ∙ l.runs

      pub loop_next : r ≡ Ok None → values'.room ≡ values.room → indexes'.room ≡ indexes.room
          → Loop env code witness ends out₀ out' values' indexes' p' (at + 1 + n)
      loop_next q x y =
          let w : n ≡ (command_row command).width = rw is at wide in
          let on : at + 1 + n ≡ after code at = omega (arith, w) in
          let c = rw (← e, q) at (acts_counted popping env l.here command (operands_at code at) values.operands indexes.operands (state_of witness ends out p.left p.checks) l.values_are l.indexes_are met) in
          rw on (record {
            last = l.last;
            room = (omega (arith, l.room.0, x), omega (arith, l.room.1, y), omega (arith, l.room.2, same));
            here = next command l.here;
            commands = l.commands + 1;
            position = position_next code l.last l.here at l.commands l.position loop_inside;
            values_are = c.0;
            indexes_are = c.1;
            going = c.2 ∙ l.going;
            made = omega (arith, m.counted_in, (oracles_grow (command_row command).terminals p.checks l.here.oracles l.made).1);
            few = omega (arith, m.fewer, l.few);
            kept = kept-now;
            runs = rw q at turned;
          })

      -- it ends with this state and the verdict v, by which an outcome is made
      ended-now : (v : Result Bool Refusal) (o : Outcome State Bool) → run_of values'.operands indexes'.operands (state_of witness ends out' p'.left p'.checks) r ≡ Run.stopped o
          → ended out₀ o ≡ record { answer = record { verdict = v; checks = p'.checks; left = length (state_of witness ends out' p'.left p'.checks).left }; buffer = over (take (112 * p'.checks) out') out₀ }
          → Answers out₀ (fold (run_step popping env) (Run.going [] [] (state_of witness ends out₀ (length ends) 0)) (instructions code))
          (record { answer = record { verdict = v; checks = p'.checks; left = p'.left }; buffer = out' })
      ended-now v o q f =
          let s = rw (q, stays env o (instructions (drop (after code at) code))) at turned in
          rw (
            ← s,
            f,
            left-count witness ends p'.left (omega (arith, m.fewer, l.few)),
            over-kept p'.checks out' out₀ (omega (arith, m.counted_in, listed, l.room.2, same)) kept-now,
          )

      pub loop_verdict : (v : Bool) → r ≡ Ok (Some v)
          → Answers out₀ (fold (run_step popping env) (Run.going [] [] (state_of witness ends out₀ (length ends) 0)) (instructions code))
          (record { answer = record { verdict = Ok v; checks = p'.checks; left = p'.left }; buffer = out' })
      loop_verdict v q = ended-now (Ok v) (ok v (state_of witness ends out' p'.left p'.checks)) (rw q) refl

      pub loop_refused : (x : Refusal) → r ≡ Err x
          → Answers out₀ (fold (run_step popping env) (Run.going [] [] (state_of witness ends out₀ (length ends) 0)) (instructions code))
          (record { answer = record { verdict = Err x; checks = p'.checks; left = p'.left }; buffer = out' })
      loop_refused x q = ended-now (Err x) (err x (state_of witness ends out' p'.left p'.checks)) (rw q) refl

-- what a turn goes by
pub record Turn (env : Env) (code witness ends out₀ out : List ℕ) (values indexes : Waiting) (p : Progress) (at : ℕ) : Type 0 where
  pub loop : Loop env code witness ends out₀ out values indexes p at
  pub inside : at < length code
  pub operands : at + 1 + (command_row (command_at code at)).width ≤ length code
  pub ready : Ready (command_at code at) values indexes
  pub supplied : Supplied (command_at code at) ends out p

pub turn_of : {env : Env} {code witness ends out₀ out : List ℕ} {values indexes : Waiting} {p : Progress} {at : ℕ}
    → Loop env code witness ends out₀ out values indexes p at → Turn env code witness ends out₀ out values indexes p at
turn_of l = record { loop = l; inside = loop_inside l; operands = loop_operands l; ready = loop_ready l; supplied = loop_supplied l }
