-- The records of one command, and of all commands up to a position of the code.
use mir.Val.{bool_byte}
use Prim.Native.Nat.{ℕ, zero, suc, ◌+◌, ◌-◌, ◌≤◌, ◌<◌}
use mathlib.Core.Bool.{Bool, true, false}
use mathlib.Core.Path.{◌≡◌, refl, sym, ap, ◌∙◌}
use mathlib.Core.List.{List, [], ◌∷◌, ◌++◌, map, map-append}
use native.Mathlib.Omega.{arith}
use borrow.Rule.Slice.PartMut.{mid_of, put_mid}
use lib.ListN.{length, get_or, take, length-append, length-map}
use Rattle.slices.specs.Bytes.{over}
use Rattle.semantics.specs.declared.Command.{Command}
use Rattle.semantics.specs.Code.{known}
use Rattle.semantics.specs.Operations.{Token}
use Rattle.semantics.specs.Parse.{after, command_at}
use Rattle.semantics.specs.Write.{place_in}
use Rattle.semantics.proofs.Over.{length_over}
use Rattle.condition.specs.Walk.{Passed}
use Rattle.token_table.specs.declared.TokenKind.{TokenKind}
use Rattle.token_table.specs.Kinds.{number}
use Rattle.token_form.specs.Fields.{number_at, payload, place_at}
use Rattle.semantics.specs.Parse.{operand_bytes}
use Rattle.token_table.specs.TokenRows.{tokens_of, token_row}
use Rattle.forms.specs.Emitted.{emitted}
use Rattle.forms.proofs.Emitting.{Emitting, all_emitted, none_emitted, one_emitted, then_more}
use Rattle.token_form.specs.Storing.{Columns, Room, Stored, columns_of}
use Rattle.slices.proofs.Front.{over-lent, over-rest}
use Rattle.token_form.proofs.Keyed.{place_for, tokens_places}
use Rattle.token_form.proofs.Rows.{tokens-kinds, tokens_numbers}

-- ---- one command, of which `records` is the number of tokens

module _ (c : Command) (k : known c ≡ true) (n : List ℕ) (marked : Bool) (own : List TokenKind) (is : map number own ≡ token_row c) (records : ℕ)
    (counted : records ≡ length own - 1 + bool_byte marked) where
  abbrev kinds : List ℕ
  kinds = map number (take records own)

  long : length own ≡ length (token_row c)
  long = sym (length-map own number) ∙ ap length is

  kinds_are : kinds ≡ map (λ t. t.kind) (tokens_of c n marked)
  kinds_are = map_take records own ∙ rw (is, counted, long) (tokens-kinds c k n marked)
    where
      map_take : (i : ℕ) (row : List TokenKind) → map number (take i row) ≡ take i (map number row)
      map_take zero row = refl
      map_take (suc i) [] = refl
      map_take (suc i) (x ∷ row) = ap (λ ks. number x ∷ ks) (map_take i row)

  pub row_leaves : (number bits place : ℕ) (ks : List (List ℕ)) (old new : Columns) → (number ≡ (payload c n).number) × (bits ≡ (payload c n).bits)
      → place ≡ place_for c n ks
      → new.kinds ≡ over kinds old.kinds
      → new.numbers ≡ over (map (number_at number bits) kinds) old.numbers
      → new.places ≡ over (map (place_at place) kinds) old.places
      → Stored (tokens_of c n marked) ks old new
  row_leaves number bits place ks old new e p x y z =
      record {
        kinds = rw kinds_are at x;
        numbers = rw (kinds_are, e.0, e.1, tokens_numbers c k n marked) at y;
        places = rw (kinds_are, p, tokens_places c n ks marked) at z;
      }

-- ---- all commands up to a position

within : (xs ys more all : List Token) → xs ++ ys ++ more ≡ all → length xs + length ys ≤ length all
within xs ys more all e = omega (arith, simp length-append at (ap length e))

-- n records are written over `old`, those of the commands before `at`, with keys that stand as in ks
pub record Progress (code : List ℕ) (marks : List Bool) (ks : List (List ℕ)) (old now : Columns) (at count n : ℕ) : Type 0 where
  pub done : List Token
  pub emitting : Emitting code marks at count done
  pub n_is : length done ≡ n
  pub written : Stored done ks old now

pub none_yet : (code : List ℕ) (marks : List Bool) (ks : List (List ℕ)) (old : Columns) → Passed code (λ s. s.tokens ≤ length marks) → Progress code marks ks old old 0 0 0
none_yet code marks ks old p =
    record {
      done = [];
      emitting = none_emitted code marks p;
      n_is = refl;
      written = record { kinds = refl; numbers = refl; places = refl };
    }

module _ (code : List ℕ) (marks : List Bool) (ks : List (List ℕ)) (old now : Columns) (at count n : ℕ) (g : Progress code marks ks old now at count n) where
  abbrev all : List Token
  all = emitted code marks

  kinds-length : length (map (λ t. t.kind) g.done) ≡ n
  kinds-length = length-map g.done (λ t. t.kind) ∙ g.n_is

  numbers_length : length (map (λ t. t.number) g.done) ≡ n
  numbers_length = length-map g.done (λ t. t.number) ∙ g.n_is

  places_length : length (map (place_in ks) g.done) ≡ n
  places_length = length-map g.done (place_in ks) ∙ g.n_is

  -- so much is written, within the buffers, which keep their lengths
  pub record Bounds : Type 0 where
    pub tokens : n ≤ length all
    pub kinds : length now.kinds ≡ length old.kinds
    pub numbers : length now.numbers ≡ length old.numbers
    pub places : length now.places ≡ length old.places

  pub bounds : Room all old → Bounds
  bounds room =
      let m = then_more code marks at count g.done g.emitting in
      let t : n ≤ length all = omega (arith, simp length-append at (ap length m.1), g.n_is) in
      let w = g.written in
      record {
        tokens = t;
        kinds = ap length w.kinds ∙ length_over (map (λ t. t.kind) g.done) old.kinds (omega (arith, kinds-length, room.kinds));
        numbers = ap length w.numbers ∙ length_over (map (λ t. t.number) g.done) old.numbers (omega (arith, numbers_length, room.numbers));
        places = ap length w.places ∙ length_over (map (place_in ks) g.done) old.places (omega (arith, places_length, room.places));
      }

  pub all_done : length code ≤ at → Stored all ks old now
  all_done h = rw (all_emitted code marks at count g.done g.emitting h) at g.written

  module _ (inside : at < length code) where
    -- the command's tokens
    abbrev pub tokens_here : List Token
    tokens_here = tokens_of (command_at code at) (operand_bytes (command_at code at) code (at + 1)) (get_or marks count false)

    -- and how far it brings the pass
    next_emitting : Emitting code marks (after code at) (count + 1) (g.done ++ tokens_here)
    next_emitting = one_emitted code marks at count g.done g.emitting inside

    more : (ts : List Token) × (g.done ++ tokens_here ++ ts ≡ all)
    more = then_more code marks (after code at) (count + 1) (g.done ++ tokens_here) next_emitting

    pub more_tokens : n + length tokens_here ≤ length all
    more_tokens = omega (arith, within g.done tokens_here more.0 all more.1, g.n_is)

    -- what is lent to the command: the rest of the columns
    abbrev pub lent : Columns
    lent =
        columns_of (mid_of n (length now.kinds - n) now.kinds) (mid_of n (length now.numbers - n) now.numbers)
        (mid_of n (length now.places - n) now.places)

    pub room_left : Room all old → Room tokens_here lent
    room_left room =
        let w = g.written in
        record {
          kinds = over-rest (map (λ t. t.kind) g.done) old.kinds now.kinds n _ kinds-length w.kinds (omega (arith, more_tokens, room.kinds));
          numbers =
              over-rest (map (λ t. t.number) g.done) old.numbers now.numbers n _ numbers_length w.numbers
              (omega (arith, more_tokens, room.numbers));
          places =
              over-rest (map (place_in ks) g.done) old.places now.places n _ places_length w.places
              (omega (arith, more_tokens, room.places));
        }

    -- and what it wrote there comes back with the columns
    pub one_more : (new : Columns) (records : ℕ) → records ≡ length tokens_here → Stored tokens_here ks lent new
        → Progress code marks ks old
        (columns_of (put_mid n (length now.kinds - n) now.kinds new.kinds) (put_mid n (length now.numbers - n) now.numbers new.numbers)
        (put_mid n (length now.places - n) now.places new.places))
        (after code at) (count + 1) (n + records)
    one_more new records e v =
        let w = g.written in
        let ts = tokens_here in
        record {
          done = g.done ++ ts;
          emitting = next_emitting;
          n_is = length-append g.done ts ∙ omega (arith, g.n_is, e);
          written = record {
            kinds = column (λ t. t.kind) old.kinds now.kinds new.kinds kinds-length w.kinds v.kinds;
            numbers = column (λ t. t.number) old.numbers now.numbers new.numbers numbers_length w.numbers v.numbers;
            places = column (place_in ks) old.places now.places new.places places_length w.places v.places;
          };
        }
      where
        column : (f : Token → ℕ) (xs mid last : List ℕ) → length (map f g.done) ≡ n → mid ≡ over (map f g.done) xs
            → last ≡ over (map f tokens_here) (mid_of n (length mid - n) mid) → put_mid n (length mid - n) mid last ≡ over (map f (g.done ++ tokens_here)) xs
        column f xs mid last l p q =
            over-lent (map f g.done) (map f tokens_here) xs mid last n l p q ∙ ap (λ (ys : List ℕ). over ys xs) (sym (map-append f g.done tokens_here))
