-- The loops over pieces: what is judged (`Judging`), and what is written (`Emitting`).
use Rattle.std.proofs.Common.{Ok, Err}
use denote.Enum.Bare.{sameb}
use Rattle.semantics.specs.contracts.Terminal.{the_type}
use Prim.Native.Nat.{ℕ, suc, ◌+◌, ◌-◌, ◌≤◌, ◌<◌}
use mathlib.Core.Bool.{Bool, true, false, cond, ◌||◌}
use mathlib.Core.Option.{Option, none, some}
use mathlib.Core.Path.{◌≡◌, refl, sym, ap, ap₂, ◌∙◌}
use mathlib.Core.List.{List, [], ◌∷◌, ◌++◌, append_assoc, append-nil}
use native.Mathlib.Nat.{add-zero}
use native.Mathlib.Omega.{arith}
use lib.ListN.{length, get_or, take, drop, length-append, take-append-drop}
use lib.Seq.{drop_at, length-take-le, take-append-le, take-take}
use Rattle.slices.specs.Bytes.{over}
use Rattle.semantics.specs.declared.Refusal.{Refusal}
use Rattle.semantics.specs.declared.Terminal.{Terminal}
use Rattle.semantics.specs.Oracle.{among, missing, rule}
use Rattle.semantics.specs.Operations.{Token}
use Rattle.semantics.specs.Records.{Records, token_at}
use Rattle.productions.specs.Before.{Whole, before}
use Rattle.emission.specs.Pieces.{Met, Spot, Piece, bytes_of, is_price_oracle1_w, joined, judged, part, pieces, pieces_after, placed_piece, put, size_of, terminal_of, terminals_of, unless_broken}
use Rattle.productions.proofs.Tokens.{drop-before}
use Rattle.emission.proofs.Parts.{joined-append, joined_one, pieces_step}
use Rattle.emission.proofs.Mets.{size-placed}

-- the pieces before a place, with the last one apart
met-step : (r : Records) (start end : ℕ) (p : Spot) → Met r end p → start < end
    → pieces (end - start) (before (token_at r) end) ≡ pieces (p.first - start) (before (token_at r) p.first) ++ placed_piece r p.command p.first ∷ []
met-step r start end p met h =
    let t : ℕ → Token = token_at r in
    let w : ℕ = (part (before t end)).width in
    let wide : p.first + w ≡ end = met.width in
    let low : 1 ≤ w = omega (arith, met.falls) in
    let more : end - start ≡ suc (end - start - 1) = omega arith in
    let count : suc (end - start - 1) - w ≡ p.first - start = omega arith in
    let there : end - w ≡ p.first = omega arith in
    ap (λ (n : ℕ). pieces n (before t end)) more ∙ pieces_step (end - start - 1) (before t end) w refl low
    ∙ ap₂ (λ (x : List Piece) (b : Piece). x ++ b ∷ []) (ap₂ (λ (n : ℕ) (l : List Token). pieces n l) count (drop-before t w end ∙ ap (before t) there)) met.piece

-- JUDGING: `done` are the pieces so far
pub record Judging (r : Records) (start end bytes : ℕ) (first : Terminal) (later : Bool) : Type 0 where
  pub done : List Piece
  pub is : pieces (length r.kinds - start) (before (token_at r) (length r.kinds)) ≡ pieces (end - start) (before (token_at r) end) ++ done
  pub size : bytes ≡ length (joined done)
  pub first_is : first ≡ get_or (terminals_of done) 0 Terminal.Other
  pub later_is : later ≡ among (drop 1 (terminals_of done))

pub judging_start : (r : Records) (start : ℕ) → Judging r start (length r.kinds) 0 Terminal.Other false
unfolding joined
judging_start r start = record { done = []; is = sym (append-nil _); size = refl; first_is = refl; later_is = refl }

among_split : (ts : List Terminal) → among ts ≡ (among (get_or ts 0 Terminal.Other ∷ []) || among (drop 1 ts))
among_split [] = refl
among_split (Terminal.Other ∷ ts) = refl
among_split (Terminal.PriceOracle1 ∷ ts) = refl
among_split (Terminal.PriceOracle1W ∷ ts) = refl

pub judging_next : (r : Records) (start end bytes : ℕ) (first : Terminal) (later : Bool) → Judging r start end bytes first later → end ≤ length r.kinds
    → Whole r.kinds r.places r.keys → start < end → (p : Spot) → Met r end p → (next : Bool) → next ≡ (among (first ∷ []) || later)
    → (t : Terminal) → t ≡ terminal_of p.command → (n : ℕ) → n ≡ size_of p.command → Judging r start p.first (bytes + n) t next
unfolding joined
judging_next r start end bytes first later j few whole h p met next e t f n g =
    let b : Piece = placed_piece r p.command p.first in
    let size = size-placed r end p met few whole in
    record {
      done = b ∷ j.done;
      is = j.is ∙ ap (λ (l : List Piece). l ++ j.done) (met-step r start end p met h) ∙ simp append_assoc;
      size = omega (arith, j.size, size, length-append (bytes_of b) (joined j.done));
      first_is = f;
      later_is = e ∙ ap₂ (λ (t : Terminal) (b : Bool). among (t ∷ []) || b) j.first_is j.later_is ∙ sym (among_split (terminals_of j.done));
    }

-- the tests of the rule
pub same_oracle : (t : Terminal) → sameb the_type t Terminal.PriceOracle1 ≡ among (t ∷ [])
same_oracle Terminal.Other = refl
same_oracle Terminal.PriceOracle1 = refl
same_oracle Terminal.PriceOracle1W = refl

pub same_first : (t : Terminal) → sameb the_type t Terminal.PriceOracle1W ≡ is_price_oracle1_w t
same_first Terminal.Other = refl
same_first Terminal.PriceOracle1 = refl
same_first Terminal.PriceOracle1W = refl

pub or_later : (later : Bool) (t : Terminal) (b : Bool) → b ≡ sameb the_type t Terminal.PriceOracle1 → (later || b) ≡ (among (t ∷ []) || later)
or_later later t b e = rw (e ∙ same_oracle t) (go later (among (t ∷ [])))
  where
    go : (x y : Bool) → (x || y) ≡ (y || x)
    go true true = refl
    go true false = refl
    go false true = refl
    go false false = refl

-- the oracle rule by the first terminal and the later ones
no_yes : {A : Type 0} → false ≡ true → A
no_yes e = let z : ◌≡◌ {A = ℕ} 0 1 = ap (λ (b : Bool). cond b 1 0) e in absurd (omega arith)

rule-first : (ts : List Terminal) → is_price_oracle1_w (get_or ts 0 Terminal.Other) ≡ true → rule ts [] ≡ some Refusal.PriceOracle1WFirst
rule-first [] e = no_yes e
rule-first (Terminal.Other ∷ ts) e = no_yes e
rule-first (Terminal.PriceOracle1 ∷ ts) e = no_yes e
rule-first (Terminal.PriceOracle1W ∷ ts) e = refl

rule_later : (ts : List Terminal) → is_price_oracle1_w (get_or ts 0 Terminal.Other) ≡ false → rule ts [] ≡ missing (drop 1 ts)
rule_later [] e = refl
rule_later (Terminal.Other ∷ ts) e = ap missing (append-nil ts)
rule_later (Terminal.PriceOracle1 ∷ ts) e = ap missing (append-nil ts)
rule_later (Terminal.PriceOracle1W ∷ ts) e = no_yes (sym e)

module _ (r : Records) (start end bytes : ℕ) (first : Terminal) (later : Bool) (j : Judging r start end bytes first later) (h : end ≤ start) where
  all_done : pieces (length r.kinds - start) (before (token_at r) (length r.kinds)) ≡ j.done
  unfolding pieces_after
  all_done = let none : end - start ≡ 0 = omega arith in j.is ∙ ap (λ (n : ℕ). pieces n (before (token_at r) end) ++ j.done) none

  judged_by : (x : Option Refusal) → rule (terminals_of j.done) [] ≡ x
      → unless_broken x bytes ≡ judged (pieces (length r.kinds - start) (before (token_at r) (length r.kinds)))
  unfolding judged
  judged_by x e = sym (rw (all_done, e, ← j.size))

  pub judged-first : is_price_oracle1_w first ≡ true → Err Refusal.PriceOracle1WFirst ≡ judged (pieces (length r.kinds - start) (before (token_at r) (length r.kinds)))
  judged-first e = judged_by (some Refusal.PriceOracle1WFirst) (rule-first (terminals_of j.done) (ap is_price_oracle1_w (sym j.first_is) ∙ e))

  module _ (other : is_price_oracle1_w first ≡ false) where
    by_later : (b : Bool) → later ≡ b → rule (terminals_of j.done) [] ≡ cond b (some Refusal.PriceOracle1Missing) none
    by_later b e =
        rule_later (terminals_of j.done) (ap is_price_oracle1_w (sym j.first_is) ∙ other) ∙ ap (λ (x : Bool). cond x (some Refusal.PriceOracle1Missing) none) (sym j.later_is ∙ e)

    pub judged_later : later ≡ true → Err Refusal.PriceOracle1Missing ≡ judged (pieces (length r.kinds - start) (before (token_at r) (length r.kinds)))
    judged_later e = judged_by (some Refusal.PriceOracle1Missing) (by_later true e)

    pub judged-kept : later ≡ false → Ok bytes ≡ judged (pieces (length r.kinds - start) (before (token_at r) (length r.kinds)))
    judged-kept e = judged_by none (by_later false e)

-- EMITTING: what stands behind `at` is written
pub record Emitting (r : Records) (start : ℕ) (old : List ℕ) (end at : ℕ) (buffer : List ℕ) : Type 0 where
  pub done : List Piece
  pub is : pieces (length r.kinds - start) (before (token_at r) (length r.kinds)) ≡ pieces (end - start) (before (token_at r) end) ++ done
  pub left : at ≡ length (joined (pieces (end - start) (before (token_at r) end)))
  pub written : buffer ≡ take at old ++ (joined done ++ drop (at + length (joined done)) old)

pub emitting_start : (r : Records) (start : ℕ) (old : List ℕ) (bytes : ℕ) → bytes ≡ length (joined (pieces (length r.kinds - start) (before (token_at r) (length r.kinds))))
    → Emitting r start old (length r.kinds) bytes old
unfolding joined
emitting_start r start old bytes e =
    record {
      done = [];
      is = sym (append-nil _);
      left = e;
      written = sym (ap (λ (n : ℕ). take bytes old ++ drop n old) (add-zero bytes) ∙ take-append-drop bytes old);
    }

module _ (r : Records) (start : ℕ) (old : List ℕ) (end at : ℕ) (buffer : List ℕ) (m : Emitting r start old end at buffer) where
  module _ (few : end ≤ length r.kinds) (whole : Whole r.kinds r.places r.keys) (h : start < end) (p : Spot) (met : Met r end p) where
    shorter : at ≡ length (joined (pieces (p.first - start) (before (token_at r) p.first))) + length (bytes_of (placed_piece r p.command p.first))
    shorter =
        m.left ∙ ap (λ (l : List Piece). length (joined l)) (met-step r start end p met h)
        ∙ ap length (joined-append (pieces (p.first - start) (before (token_at r) p.first)) (placed_piece r p.command p.first ∷ []) ∙ ap (λ (l : List ℕ). joined (pieces (p.first - start) (before (token_at r) p.first)) ++ l) (joined_one (placed_piece r p.command p.first)))
        ∙ length-append (joined (pieces (p.first - start) (before (token_at r) p.first))) (bytes_of (placed_piece r p.command p.first))

    pub room : size_of p.command ≤ at
    room = omega (arith, shorter, size-placed r end p met few whole)

    pub emitting_next : at ≤ length old → (after : List ℕ) → after ≡ put buffer at (bytes_of (placed_piece r p.command p.first))
        → Emitting r start old p.first (at - size_of p.command) after
    unfolding joined
    emitting_next inside after e =
        let b : List ℕ = bytes_of (placed_piece r p.command p.first) in
        let rest : List ℕ = joined m.done ++ drop (at + length (joined m.done)) old in
        let size : length b ≡ size_of p.command = size-placed r end p met few whole in
        let low : length b ≤ at = omega (arith, shorter) in
        let front : take (at - length b) buffer ≡ take (at - length b) old =
        ap (take (at - length b)) m.written ∙ take-append-le (at - length b) (take at old) rest (omega (arith, length-take-le at old inside))
        ∙ take-take (at - length b) at old (omega arith) in
        let back : drop at buffer ≡ rest = ap (drop at) m.written ∙ drop_at (take at old) rest at (length-take-le at old inside) in
        let place : at - length b ≡ at - size_of p.command = ap (λ (n : ℕ). at - n) size in
        let behind : at + length (joined m.done) ≡ at - length b + length (b ++ joined m.done) = omega (arith, length-append b (joined m.done)) in
        record {
          done = placed_piece r p.command p.first ∷ m.done;
          is = m.is ∙ ap (λ (l : List Piece). l ++ m.done) (met-step r start end p met h) ∙ simp append_assoc;
          left = omega (arith, shorter, size);
          written = rw (← place) (e ∙ ap₂ (λ (x : List ℕ) (y : List ℕ). x ++ (b ++ y)) front (back ∙ ap (λ (n : ℕ). joined m.done ++ drop n old) behind) ∙ simp append_assoc);
        }

  pub emitted : end ≤ start → buffer ≡ over (joined (pieces (length r.kinds - start) (before (token_at r) (length r.kinds)))) old
  unfolding pieces_after joined
  emitted h =
      let none : end - start ≡ 0 = omega arith in
      let all : pieces (length r.kinds - start) (before (token_at r) (length r.kinds)) ≡ m.done = m.is ∙ ap (λ (n : ℕ). pieces n (before (token_at r) end) ++ m.done) none in
      let zero_left : at ≡ 0 = m.left ∙ ap (λ (n : ℕ). length (joined (pieces n (before (token_at r) end)))) none in
      let count : at + length (joined m.done) ≡ length (joined m.done) = omega arith in
      rw all (m.written ∙ ap₂ (λ (a : ℕ) (n : ℕ). take a old ++ (joined m.done ++ drop n old)) zero_left count)
