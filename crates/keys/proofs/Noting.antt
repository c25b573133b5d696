-- Keys noted by their positions: one is found among them, one more is noted, and those of all commands up to a position of the code are.
use Rattle.std.proofs.Common.{ltb, Some, None, is_some, unwrap_or}
use Prim.Native.Nat.{ℕ, zero, suc, ◌+◌, ◌-◌, ◌≤◌, ◌<◌}
use mathlib.Core.Bool.{Bool, true, false, cond}
use mathlib.Core.Path.{◌≡◌, refl, sym, ap, ◌∙◌}
use mathlib.Core.List.{List, [], ◌∷◌, ◌++◌, map, map-append}
use native.Mathlib.Numerals.{add-one}
use native.Mathlib.Omega.{arith}
use Rattle.std.proofs.lemmas.Bool.{ltb-false}
use Rattle.semantics.proofs.Placing.{index_most}
use borrow.Author.Tests.{eq-eqb, eqb-true, le-ltb, lt-ltb}
use lib.Dec.{eqb}
use lib.ListN.{length, get_or, set, take, drop, length-map, length-set}
use lib.Seq.{drop-cons, drop-length, take-suc-set}
use Rattle.slices.specs.Bytes.{All}
use Rattle.slices.proofs.Bytes.{all_join}
use Rattle.semantics.specs.Code.{command_row}
use Rattle.semantics.specs.FromTokens.{same_bytes}
use Rattle.semantics.specs.Parse.{command_at, fold, instructions, operands_at}
use Rattle.semantics.specs.Write.{index_of, with_key}
use Rattle.semantics.proofs.Machine.{fold-ends, fold_takes, key_at_lem}
use Rattle.summary.specs.declared.Summary.{Summary}
use Rattle.commands.specs.Cursor.{cursor_at}
use Rattle.commands.specs.declared.Cursor.{Cursor}
use Rattle.condition.specs.Walk.{Passed, next, start}
use Rattle.condition.proofs.Position.{Position, passes_on, position_below, position_next, position_start}
use Rattle.keys.specs.Keys.{Inside, KeysFound, OneMore, code_keys, key_at, key_step, keys_at, place_among}

-- the first 32 of 40 operand bytes are the key at their position
pub key_of : {X : Type 0} (f : List ℕ → X) (x : X) (code : List ℕ) (at width : ℕ)
    → cond (eqb width 40) (f (take 32 (take width (drop at code)))) x ≡ cond (eqb width 40) (f (key_at code at)) x
key_of f x code at width = go (eqb width 40) refl
  where
    go : (b : Bool) → eqb width 40 ≡ b → cond b (f (take 32 (take width (drop at code)))) x ≡ cond b (f (key_at code at)) x
    go true e = rw (eqb-true width 40 e, key_at_lem code at)
    go false e = refl

module _ (code positions : List ℕ) where
  pub keys-count : length (keys_at code positions) ≡ length positions
  keys-count = length-map positions (key_at code)

  pub position_inside : Inside code positions → (j : ℕ) → j < length positions → get_or positions j 0 + 32 ≤ length code
  position_inside inside j h = all_at positions j h inside
    where
      all_at : (ps : List ℕ) (i : ℕ) → i < length ps → All (λ p. p + 32 ≤ length code) ps → get_or ps i 0 + 32 ≤ length code
      all_at [] i l all = absurd (omega arith)
      all_at (p ∷ ps) zero l all = all.0
      all_at (p ∷ ps) (suc i) l all = all_at ps i (omega arith) all.1

  -- ---- found: how many keys stand before it from the j-th on

  abbrev pub from : List ℕ → ℕ → ℕ
  from key j = index_of key (keys_at code (drop j positions))

  module _ (key : List ℕ) (j : ℕ) where
    from-turn : j < length positions → from key j ≡ cond (same_bytes (key_at code (get_or positions j 0)) key) 0 (suc (from key (j + 1)))
    unfolding index_of
    from-turn h = rw (drop-cons positions j 0 h, add-one j)

    pub from_here : j < length positions → same_bytes (key_at code (get_or positions j 0)) key ≡ true → from key j ≡ 0
    from_here h e = from-turn h ∙ rw e

    pub from_later : j < length positions → same_bytes (key_at code (get_or positions j 0)) key ≡ false → from key j ≡ suc (from key (j + 1))
    from_later h e = from-turn h ∙ rw e

  pub from_end : (key : List ℕ) → from key (length positions) ≡ 0
  unfolding index_of
  from_end key = rw (drop-length positions)

  pub placed : (key : List ℕ) (j : ℕ) → j < length positions → index_of key (keys_at code positions) ≡ j → place_among key (keys_at code positions) ≡ Some j
  placed key j h e = rw (e, keys-count, lt-ltb j (length positions) h)

  pub not_placed : (key : List ℕ) → index_of key (keys_at code positions) ≡ length positions → place_among key (keys_at code positions) ≡ None
  not_placed key e = rw (e, keys-count, le-ltb (length positions) (length positions) (omega arith))

  -- a key that is not among them would stand behind them
  pub place_or_end : (key : List ℕ) → unwrap_or (place_among key (keys_at code positions)) (length positions) ≡ index_of key (keys_at code positions)
  place_or_end key = go (ltb (index_of key (keys_at code positions)) (length (keys_at code positions))) refl
    where
      go : (b : Bool) → ltb (index_of key (keys_at code positions)) (length (keys_at code positions)) ≡ b
          → unwrap_or (cond b (Some (index_of key (keys_at code positions))) None) (length positions) ≡ index_of key (keys_at code positions)
      go true e = refl
      go false e = omega (arith, keys-count, index_most key (keys_at code positions), ltb-false _ _ e)

-- ---- noted

module _ (code positions : List ℕ) (n : ℕ) (there : n ≤ length positions) (inside : Inside code (take n positions)) (width at : ℕ) where
  abbrev noted : List ℕ
  noted = take n positions

  module _ (e : width ≡ 40) where
    pub noted_again : true ≡ is_some (place_among (key_at code at) (keys_at code noted)) → OneMore code width at positions n positions n
    unfolding with_key
    noted_again found = go (ltb (index_of (key_at code at) (keys_at code noted)) (length (keys_at code noted))) refl found
      where
        go : (b : Bool) → ltb (index_of (key_at code at) (keys_at code noted)) (length (keys_at code noted)) ≡ b
            → true ≡ is_some (cond b (Some (index_of (key_at code at) (keys_at code noted))) None) → OneMore code width at positions n positions n
        go true q f = record { keys = rw (eq-eqb width 40 e, q); inside = inside; there = there; few = omega arith; long = refl }
        go false q f = absurd (let z : ◌≡◌ {A = ℕ} 0 1 = cc in omega arith)

    pub noted_new : false ≡ is_some (place_among (key_at code at) (keys_at code noted)) → at + 32 ≤ length code → n < length positions
        → OneMore code width at positions n (set positions n at) (n + 1)
    unfolding with_key
    noted_new found w l = go (ltb (index_of (key_at code at) (keys_at code noted)) (length (keys_at code noted))) refl found
      where
        t : take (n + 1) (set positions n at) ≡ noted ++ at ∷ []
        t = rw (add-one n) (take-suc-set positions n at l)

        go : (b : Bool) → ltb (index_of (key_at code at) (keys_at code noted)) (length (keys_at code noted)) ≡ b
            → false ≡ is_some (cond b (Some (index_of (key_at code at) (keys_at code noted))) None) → OneMore code width at positions n (set positions n at) (n + 1)
        go true q f = absurd (let z : ◌≡◌ {A = ℕ} 0 1 = cc in omega arith)
        go false q f =
            record {
              keys = rw (eq-eqb width 40 e, q) (ap (map (key_at code)) t ∙ map-append (key_at code) noted (at ∷ []));
              inside = rw t (all_join (λ p. p + 32 ≤ length code) noted (at ∷ []) inside (w, tt));
              there = simp length-set (omega arith);
              few = omega arith;
              long = length-set positions n at;
            }

-- ---- all commands up to a position: n keys are noted

pub record Noting (code : List ℕ) (size : ℕ) (positions : List ℕ) (at n : ℕ) : Type 0 where
  pub all : Passed code (λ s. s.tokens ≤ size)
  pub here : Summary
  pub commands : ℕ
  pub position : Position code all.last here at commands
  pub few : n ≤ commands
  pub long : length positions ≡ size
  pub there : n ≤ length positions
  pub inside : Inside code (take n positions)
  pub left : fold key_step (keys_at code (take n positions)) (instructions (drop at code)) ≡ code_keys code

pub noting_none : (code positions : List ℕ) → Passed code (λ s. s.tokens ≤ length positions) → Noting code (length positions) positions 0 0
unfolding code_keys
noting_none code positions p =
    record {
      all = p;
      here = start;
      commands = 0;
      position = position_start code p.last p.walk;
      few = omega arith;
      long = refl;
      there = omega arith;
      inside = tt;
      left = refl;
    }

module _ (code : List ℕ) (size : ℕ) (positions : List ℕ) (at n : ℕ) (g : Noting code size positions at n) where
  pub noting_done : length code ≤ at → KeysFound code (take n positions)
  noting_done h = record { keys = sym (fold-ends key_step code at h (keys_at code (take n positions))) ∙ g.left; inside = g.inside }

  module _ (inside : at < length code) where
    abbrev width : ℕ
    width = (command_row (command_at code at)).width

    pub noting_room : n < length positions
    noting_room = omega (arith, position_below code g.all.last g.here at g.commands g.position inside, g.all.known, g.few, g.long)

    pub noting_operands : at + 1 + width ≤ length code
    noting_operands = (passes_on code g.all.last g.here at g.commands g.position inside).operands

    -- one turn, by what the cursor told and `note_key` promises
    pub noting_next : (here : Cursor) → here ≡ cursor_at code at → (new : List ℕ) (m : ℕ)
        → OneMore code (here.next - here.operands) here.operands positions n new m → Noting code size new here.next m
    noting_next here e new m w =
        let ks = keys_at code (take n positions) in
        let bytes : here.next - here.operands ≡ width = rw e (omega arith) in
        let keys : keys_at code (take m new) ≡ key_step ks (command_at code at) (operands_at code at) =
        w.keys ∙ rw (bytes, e, add-one at) (sym (key_of (with_key ks) ks code (suc at) width)) in
        rw e
        record {
          all = g.all;
          here = next (command_at code at) g.here;
          commands = g.commands + 1;
          position = position_next code g.all.last g.here at g.commands g.position inside;
          few = omega (arith, w.few, g.few);
          long = w.long ∙ g.long;
          there = w.there;
          inside = w.inside;
          left = rw keys (sym (fold_takes key_step code at inside ks) ∙ g.left);
        }
