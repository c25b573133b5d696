-- A function's locals as the first entry of a walk's context: where each lies and what it holds. Local i is found by its number in the MIR.
--     Held             what a local holds: nothing that counts (`empty`), a value (`holds v`), or what has been lent out of it (`lent`)
--     Frame E hs       the entry: the locals at the types and blocks of E hold hs, and each may be freed
--     env_of ls l, entry ls vs      the environment of the locals ls, where local i lies at the block `l i`, and what they hold where the function is entered
--     put i h hs       local i holds h.        held_at, slot_at, owned, all_owned     what local i holds, and whether it, or any, is lent
--     enters           a function is entered: its locals are allocated, and its parameters hold the values passed
--     leaves-within    it returns what local 0 holds, and its locals are freed, whatever they hold
--     clears n m       the locals from n up to m are empty again: what a loop's next turn finds
--     within i         local i, as a part of the entry (`Types/Part.antt`): what `look_in`, `store_in`, `sub`, `in_variant` and `look_tag` take
--     into i           a store into local i, whatever it held, unless it is lent
--     typed            what the locals hold are values of their types
--     lent_out, lent_in        a local's cell, taken out of the entry and put back
use mathlib.Core.Path.{◌≡◌, refl, sym, ap, subst}
use mathlib.Core.Bool.{Bool, true, false, ◌&&◌}
use mathlib.Core.List.{List, [], ◌∷◌}
use mathlib.Core.Option.{Option, none, some, none-ne-some, some-injective}
use Prim.Native.Nat.{ℕ, zero, suc}
use seplogic.Ra.Ura.{Ura}
use base.Fraction.{full_share}
use lib.Dec.{T}
use lib.ListN.{get_or}
use mir.Facts.{and_yes}
use mir.Syntax.{Ty, Local, local, Fn, return}
use mir.Val.{Val, WT, has_ty}
use base.Logic.{SProp, ent, sep, wand, all, all_e, apply∗, id⊢, via, emp, emp∗, snd∗, mono∗, assoc∗, mono_l, mono_r, wand_i, all_i, guard, guard_i, ex_i, ex_e}
use base.Fml.{Fml, ftrue, fsep, fat, fex, froom, fdies}
use prog.Wp.{Calls, Loops, WpFn, returns as returnsᴼ, no_local, alloc, params, pass, release, Wp, at_return}
use types.Logic.{Logic, sem}
use types.Kit.{Item, ‵, raw, ◌⊛◌, given, ⋆, push, pop, Post, at_ret, post, Goal, prop, runs, Seq, Step, step, ◌$◌, ◌∵◌, !, qed, by, move, use1, use2}
use types.Kit.{split, join, check, learn, fsplit, fjoin, fpick, assume, frame as frame!, each, done}
use types.Run.{Writes, returns_within}
use types.Part.{Part, look_in}

pub data Held : Type 0 where
  empty : Held
  holds : Val → Held
  lent : Held

-- ---- lists of what is held
-- what local i holds, put in its place
abbrev pub put : ℕ → Held → List Held → List Held
put i h [] = []
put zero h (g ∷ hs) = h ∷ hs
put (suc i) h (g ∷ hs) = g ∷ put i h hs

-- what local i holds, if there is such a local
abbrev pub slot_at : List (Ty × ℕ) → List Held → ℕ → Option Held
slot_at [] hs i = none
slot_at (e ∷ E) [] i = none
slot_at (e ∷ E) (h ∷ hs) zero = some h
slot_at (e ∷ E) (h ∷ hs) (suc i) = slot_at E hs i

abbrev valued : Option Held → Option Val
valued none = none
valued (some empty) = none
valued (some (holds v)) = some v
valued (some lent) = none

-- the value that it holds
abbrev pub held_at : List (Ty × ℕ) → List Held → ℕ → Option Val
held_at E hs i = valued (slot_at E hs i)

abbrev own : Held → Bool
own empty = true
own (holds v) = true
own lent = false

abbrev there : Option Held → Bool
there none = false
there (some h) = own h

-- local i is there, and not lent
abbrev pub owned : List (Ty × ℕ) → List Held → ℕ → Bool
owned E hs i = there (slot_at E hs i)

-- no local of E is lent
abbrev pub all_owned : List (Ty × ℕ) → List Held → Bool
all_owned [] hs = true
all_owned (e ∷ E) [] = false
all_owned (e ∷ E) (h ∷ hs) = own h && all_owned E hs

abbrev emptied : Held → Held
emptied empty = empty
emptied (holds v) = empty
emptied lent = lent

-- the locals from n up to m hold nothing that counts
abbrev pub cleared : ℕ → ℕ → List Held → List Held
cleared n m [] = []
cleared n zero (h ∷ hs) = h ∷ hs
cleared zero (suc m) (h ∷ hs) = emptied h ∷ cleared zero m hs
cleared (suc n) (suc m) (h ∷ hs) = h ∷ cleared n m hs

-- ---- locals as they are entered
abbrev pub env_of : List Local → (ℕ → ℕ) → List (Ty × ℕ)
env_of [] l = []
env_of (local τ h ∷ ls) l = (τ, l zero) ∷ env_of ls (λ i. l (suc i))

abbrev pub empties : List Local → List Held
empties [] = []
empties (l ∷ ls) = empty ∷ empties ls

-- the values passed, from the first of these locals on
abbrev pub passed : List Local → List Val → List Held
passed [] vs = []
passed (l ∷ ls) [] = empty ∷ passed ls []
passed (l ∷ ls) (v ∷ vs) = holds v ∷ passed ls vs

-- what a function's locals hold at entry: the parameters come after the result
abbrev pub entry : List Local → List Val → List Held
entry [] vs = []
entry (l ∷ ls) vs = empty ∷ passed ls vs

-- ---- the entry itself
abbrev cell : Ty × ℕ → Held → Fml
cell e empty = froom e.0 e.1 zero
cell e (holds v) = fat full_share e.0 e.1 zero v
cell e lent = ftrue

unfoldable pub frame : List (Ty × ℕ) → List Held → Fml
frame [] hs = ftrue
frame (e ∷ E) [] = ftrue
frame (e ∷ E) (h ∷ hs) = fsep (fsep (cell e h) (fdies e.0 e.1)) (frame E hs)

-- the values passed are values of the parameters' types
abbrev pub Fit : List Local → List Val → Type 0
Fit ls [] = Unit {0}
Fit [] (v ∷ vs) = ⊥
Fit (local τ h ∷ ls) (v ∷ vs) = (T (has_ty τ v) × WT v) × Fit ls vs

abbrev pub Passes : List Local → List Val → Type 0
Passes [] vs = ⊥
Passes (l ∷ ls) vs = Fit ls vs

module _ {M : Type 1} {𝓤 : Ura M} (𝓛 : Logic 𝓤) where
  open 𝓛 use {H}

  abbrev pub spot : List (Ty × ℕ) → ℕ → Ty × ℕ
  spot E i = get_or E i (no_local 𝓤 H)

  abbrev pub at_local : List (Ty × ℕ) → ℕ → Val → SProp 𝓤
  at_local E i u = H.at full_share (spot E i).0 (spot E i).1 zero u

  -- what local i holds is taken out of the frame, and the frame is had again with whatever it is to hold
  abbrev Back : List (Ty × ℕ) → List Held → ℕ → Held → SProp 𝓤
  Back E hs i g = wand 𝓤 (sem 𝓛 (cell (spot E i) g)) (sem 𝓛 (frame E (put i g hs)))

  taken : (E : List (Ty × ℕ)) (hs : List Held) (i : ℕ) (h : Held) → slot_at E hs i ≡ some h
      → ent 𝓤 (sem 𝓛 (frame E hs)) (sep 𝓤 (sem 𝓛 (cell (spot E i) h)) (all 𝓤 (Back E hs i)))
  unfolding frame
  taken [] hs i h p = absurd (none-ne-some h p)
  taken (e ∷ E) [] i h p = absurd (none-ne-some h p)
  taken (e ∷ E) (g ∷ hs) zero h p = subst (λ (f : Held). ent 𝓤 (sem 𝓛 (frame (e ∷ E) (g ∷ hs)))
      (sep 𝓤 (sem 𝓛 (cell e f)) (all 𝓤 (Back (e ∷ E) (g ∷ hs) zero)))) (some-injective g h p)
      (qed 𝓛 (‵ (fsep (cell e g) (fdies e.0 e.1)) ∷ ‵ (frame E hs) ∷ []) ∵ fsplit ! $ frame! ! $
      each ! (Back (e ∷ E) (g ∷ hs) zero) (λ f. assume ! (‵ (cell e f)) $ fjoin ! $ done !))
  taken (e ∷ E) (g ∷ hs) (suc i) h p =
      let First : Fml = fsep (cell e g) (fdies e.0 e.1) in
      qed 𝓛 (‵ First ∷ ‵ (frame E hs) ∷ []) ∵ move ! (1 ∷ []) $ use1 𝓛 (‵ (cell (spot E i) h) ⊛ raw (all 𝓤 (Back E hs i))) (taken E hs i h p) $ split ! $
      frame! ! $
      each ! (Back (e ∷ E) (g ∷ hs) (suc i)) (λ f. assume ! (‵ (cell (spot E i) f)) $ move ! (1 ∷ []) $ use1 𝓛 (raw (Back E hs i f)) (all_e 𝓤 (Back E hs i) f) $
      move ! (1 ∷ 0 ∷ []) $
      use2 𝓛 (‵ (frame E (put i f hs))) (apply∗ 𝓤 (sem 𝓛 (cell (spot E i) f)) (sem 𝓛 (frame E (put i f hs)))) $ move ! (1 ∷ 0 ∷ []) $ done !)

  -- what is put back as it was changes nothing
  put_same : (E : List (Ty × ℕ)) (hs : List Held) (i : ℕ) (h : Held) → slot_at E hs i ≡ some h → put i h hs ≡ hs
  put_same [] hs i h p = absurd (none-ne-some h p)
  put_same (e ∷ E) [] i h p = absurd (none-ne-some h p)
  put_same (e ∷ E) (g ∷ hs) zero h p = ap (λ (f : Held). f ∷ hs) (sym (some-injective g h p))
  put_same (e ∷ E) (g ∷ hs) (suc i) h p = ap (λ (fs : List Held). g ∷ fs) (put_same E hs i h p)

  is_value : (o : Option Held) (v : Val) → valued o ≡ some v → o ≡ some (holds v)
  is_value none v p = absurd (none-ne-some v p)
  is_value (some empty) v p = absurd (none-ne-some v p)
  is_value (some (holds u)) v p = ap (λ (z : Val). some (holds z)) (some-injective u v p)
  is_value (some lent) v p = absurd (none-ne-some v p)

  -- room for one, whatever it holds
  vacated : (e : Ty × ℕ) (h : Held) → T (own h) → ent 𝓤 (sem 𝓛 (cell e h)) (H.room e.0 e.1 zero)
  vacated e empty p = id⊢ 𝓤 (H.room e.0 e.1 zero)
  vacated e (holds v) p = 𝓛.laws.at_room e.0 e.1 zero v
  vacated e lent p = absurd p

  -- ---- entering and leaving
  abbrev consed : ℕ → (ℕ → ℕ) → ℕ → ℕ
  consed b l zero = b
  consed b l (suc i) = l i

  allocated : (ls : List Local) (R : SProp 𝓤) (Kt : List (Ty × ℕ) → SProp 𝓤)
      → ((l : ℕ → ℕ) → ent 𝓤 (sep 𝓤 (sem 𝓛 (frame (env_of ls l) (empties ls))) R) (Kt (env_of ls l))) → ent 𝓤 R (alloc 𝓤 H ls Kt)
  unfolding frame
  allocated [] R Kt k = via 𝓤 (sep 𝓤 (emp 𝓤) R) (emp∗ 𝓤 R) (k (λ i. i))
  allocated (local τ h ∷ ls) R Kt k = all_i 𝓤 (λ (b : ℕ). wand 𝓤 (sep 𝓤 (H.room τ b zero) (H.dies τ b)) (alloc 𝓤 H ls (λ E. Kt ((τ, b) ∷ E)))) (λ b.
      wand_i 𝓤 R (sep 𝓤 (H.room τ b zero) (H.dies τ b)) (alloc 𝓤 H ls (λ E. Kt ((τ, b) ∷ E)))
      (allocated ls (sep 𝓤 R (sep 𝓤 (H.room τ b zero) (H.dies τ b))) (λ E. Kt ((τ, b) ∷ E)) (λ l.
      via 𝓤 (sep 𝓤 (sem 𝓛 (frame ((τ, b) ∷ env_of ls l) (empty ∷ empties ls))) R)
      (qed 𝓛 (‵ (frame (env_of ls l) (empties ls)) ∷ raw R ∷ raw (sep 𝓤 (H.room τ b zero) (H.dies τ b)) ∷ []) ∵ move ! (2 ∷ 0 ∷ 1 ∷ []) $ join ! $ done !)
      (k (consed b l)))))

  freed : (E : List (Ty × ℕ)) (hs : List Held) (R : SProp 𝓤) → T (all_owned E hs) → ent 𝓤 (sep 𝓤 (sem 𝓛 (frame E hs)) R) (release 𝓤 H E R)
  unfolding frame
  freed [] hs R p = snd∗ 𝓤 (emp 𝓤) R
  freed (e ∷ E) [] R p = absurd p
  freed (e ∷ E) (h ∷ hs) R p =
      via 𝓤 (sep 𝓤 (sep 𝓤 (sem 𝓛 (cell e h)) (H.dies e.0 e.1)) (sep 𝓤 (sem 𝓛 (frame E hs)) R))
      (assoc∗ 𝓤 (sem 𝓛 (fsep (cell e h) (fdies e.0 e.1))) (sem 𝓛 (frame E hs)) R)
      (mono∗ 𝓤 (mono_l 𝓤 (H.dies e.0 e.1) (vacated e h (and_yes (own h) (all_owned E hs) p).0)) (freed E hs R (and_yes (own h) (all_owned E hs) p).1))

  none_passed : (ls : List Local) → passed ls [] ≡ empties ls
  none_passed [] = refl
  none_passed (l ∷ ls) = ap (λ (hs : List Held). empty ∷ hs) (none_passed ls)

  stored : (ls : List Local) (l : ℕ → ℕ) (vs : List Val) (R P : SProp 𝓤) → Fit ls vs → ent 𝓤 (sep 𝓤 (sem 𝓛 (frame (env_of ls l) (passed ls vs))) R) P
      → ent 𝓤 (sep 𝓤 (sem 𝓛 (frame (env_of ls l) (empties ls))) R) (pass 𝓤 H (env_of ls l) vs P)
  unfolding frame
  stored [] l [] R P f k = k
  stored [] l (v ∷ vs) R P f k = absurd f
  stored (local τ h ∷ ls) l [] R P f k = subst (λ (hs : List Held). ent 𝓤 (sep 𝓤 (sem 𝓛 (frame (env_of (local τ h ∷ ls) l) hs)) R) P)
      (none_passed (local τ h ∷ ls)) k
  stored (local τ h ∷ ls) l (v ∷ vs) R P f k =
      let L : ℕ → ℕ = λ i. l (suc i) in
      let C : Fml = fsep (fat full_share τ (l zero) zero v) (fdies τ (l zero)) in
      qed 𝓛 ((‵ (fsep (froom τ (l zero) zero) (fdies τ (l zero))) ⊛ ‵ (frame (env_of ls L) (empties ls))) ∷ raw R ∷ []) ∵ split ! $
      check ! f.0 $ fsplit ! $ frame! ! $ assume ! (‵ (fat full_share τ (l zero) zero v)) $ fjoin ! $ move ! (1 ∷ 0 ∷ 2 ∷ []) $
      by ! (stored ls L vs (sep 𝓤 (sem 𝓛 C) R) P f.1
      (via 𝓤 (sep 𝓤 (sep 𝓤 (sem 𝓛 C) (sem 𝓛 (frame (env_of ls L) (passed ls vs)))) R)
      (qed 𝓛 (‵ (frame (env_of ls L) (passed ls vs)) ∷ ‵ C ∷ raw R ∷ []) ∵ move ! (1 ∷ 0 ∷ 2 ∷ []) $ join ! $ done !) k))

  entered : (ls : List Local) (vs : List Val) (R : SProp 𝓤) (Kt : List (Ty × ℕ) → SProp 𝓤) → Passes ls vs
      → ((l : ℕ → ℕ) → ent 𝓤 (sep 𝓤 (sem 𝓛 (frame (env_of ls l) (entry ls vs))) R) (Kt (env_of ls l)))
      → ent 𝓤 R (alloc 𝓤 H ls (λ E. params 𝓤 H E vs (Kt E)))
  unfolding frame
  entered [] vs R Kt f k = absurd f
  entered (local τ h ∷ ls) vs R Kt f k = allocated (local τ h ∷ ls) R (λ E. params 𝓤 H E vs (Kt E)) (λ l.
      let L : ℕ → ℕ = λ i. l (suc i) in
      let C : Fml = fsep (froom τ (l zero) zero) (fdies τ (l zero)) in
      let P : SProp 𝓤 = Kt (env_of (local τ h ∷ ls) l) in
      via 𝓤 (sep 𝓤 (sem 𝓛 (frame (env_of ls L) (empties ls))) (sep 𝓤 (sem 𝓛 C) R))
      (qed 𝓛 ((‵ C ⊛ ‵ (frame (env_of ls L) (empties ls))) ∷ raw R ∷ []) ∵ split ! $ move ! (1 ∷ 0 ∷ 2 ∷ []) $ done !)
      (stored ls L vs (sep 𝓤 (sem 𝓛 C) R) P f
      (via 𝓤 (sep 𝓤 (sep 𝓤 (sem 𝓛 C) (sem 𝓛 (frame (env_of ls L) (passed ls vs)))) R)
      (qed 𝓛 (‵ (frame (env_of ls L) (passed ls vs)) ∷ ‵ C ∷ raw R ∷ []) ∵ move ! (1 ∷ 0 ∷ 2 ∷ []) $ join ! $ done !) (k l))))

  cleared-out : (n m : ℕ) (E : List (Ty × ℕ)) (hs : List Held) → ent 𝓤 (sem 𝓛 (frame E hs)) (sem 𝓛 (frame E (cleared n m hs)))
  unfolding frame
  cleared-out n m [] hs = id⊢ 𝓤 (emp 𝓤)
  cleared-out n m (e ∷ E) [] = id⊢ 𝓤 (emp 𝓤)
  cleared-out n zero (e ∷ E) (h ∷ hs) = id⊢ 𝓤 (sem 𝓛 (frame (e ∷ E) (h ∷ hs)))
  cleared-out zero (suc m) (e ∷ E) (h ∷ hs) = mono∗ 𝓤 (mono_l 𝓤 (H.dies e.0 e.1) (left_empty h)) (cleared-out zero m E hs)
    where
      left_empty : (g : Held) → ent 𝓤 (sem 𝓛 (cell e g)) (sem 𝓛 (cell e (emptied g)))
      left_empty empty = id⊢ 𝓤 (H.room e.0 e.1 zero)
      left_empty (holds v) = 𝓛.laws.at_room e.0 e.1 zero v
      left_empty lent = id⊢ 𝓤 (emp 𝓤)
  cleared-out (suc n) (suc m) (e ∷ E) (h ∷ hs) = mono∗ 𝓤 (id⊢ 𝓤 (sem 𝓛 (fsep (cell e h) (fdies e.0 e.1)))) (cleared-out n m E hs)

-- ---- the entry. `Locals E hs` says nothing: it has E and hs stand where antt finds them
pub data Locals (E : List (Ty × ℕ)) (hs : List Held) : Type 0 where
  these : Locals E hs

abbrev pub Frame : List (Ty × ℕ) → List Held → Fml
Frame E hs = fex (Locals E hs) (λ _. frame E hs)

-- what the locals hold are values of their types
abbrev typed_held : Ty → Held → Type 0
typed_held τ empty = Unit {0}
typed_held τ (holds v) = T (has_ty τ v) × WT v
typed_held τ lent = Unit {0}

abbrev pub Typed : List (Ty × ℕ) → List Held → Type 0
Typed [] hs = Unit {0}
Typed (e ∷ E) [] = Unit {0}
Typed (e ∷ E) (h ∷ hs) = typed_held e.0 h × Typed E hs

module _ {M : Type 1} {𝓤 : Ura M} (𝓛 : Logic 𝓤) where
  open 𝓛 use {H}

  frame_typed : (E : List (Ty × ℕ)) (hs : List Held) → ent 𝓤 (sem 𝓛 (frame E hs)) (guard 𝓤 (Typed E hs) (sem 𝓛 (frame E hs)))
  unfolding frame
  frame_typed [] hs = guard_i 𝓤 (Unit {0}) (emp 𝓤) tt
  frame_typed (e ∷ E) [] = guard_i 𝓤 (Unit {0}) (emp 𝓤) tt
  frame_typed (e ∷ E) (h ∷ hs) =
      qed 𝓛 (‵ (fsep (cell e h) (fdies e.0 e.1)) ∷ ‵ (frame E hs) ∷ []) ∵ fsplit ! $ use1 𝓛 (given (typed_held e.0 h) (‵ (cell e h))) (one h) $
      learn ! (λ t.
      move ! (2 ∷ []) $ use1 𝓛 (given (Typed E hs) (‵ (frame E hs))) (frame_typed E hs) $
      learn ! (λ ts. check ! (t, ts) $ move ! (1 ∷ 2 ∷ 0 ∷ []) $ fjoin ! $ done !))
    where
      one : (g : Held) → ent 𝓤 (sem 𝓛 (cell e g)) (guard 𝓤 (typed_held e.0 g) (sem 𝓛 (cell e g)))
      one empty = guard_i 𝓤 (Unit {0}) (H.room e.0 e.1 zero) tt
      one (holds v) = 𝓛.laws.at_wt full_share e.0 e.1 zero v
      one lent = guard_i 𝓤 (Unit {0}) (emp 𝓤) tt

  framed : (E : List (Ty × ℕ)) (hs : List Held) → ent 𝓤 (sem 𝓛 (frame E hs)) (sem 𝓛 (Frame E hs))
  framed E hs = ex_i 𝓤 (λ (_ : Locals E hs). sem 𝓛 (frame E hs)) these

  unframed : (E : List (Ty × ℕ)) (hs : List Held) → ent 𝓤 (sem 𝓛 (Frame E hs)) (sem 𝓛 (frame E hs))
  unframed E hs = ex_e 𝓤 (λ (_ : Locals E hs). sem 𝓛 (frame E hs)) (λ _. id⊢ 𝓤 (sem 𝓛 (frame E hs)))

  abbrev Way : List (Ty × ℕ) → List Held → ℕ → Held → SProp 𝓤
  Way E hs i g = wand 𝓤 (sem 𝓛 (cell (spot 𝓛 E i) g)) (sem 𝓛 (Frame E (put i g hs)))

  -- `taken`, of the entry
  pub entry-out : (E : List (Ty × ℕ)) (hs : List Held) (i : ℕ) (h : Held) → slot_at E hs i ≡ some h
      → ent 𝓤 (sem 𝓛 (Frame E hs)) (sep 𝓤 (sem 𝓛 (cell (spot 𝓛 E i) h)) (all 𝓤 (Way E hs i)))
  entry-out E hs i h p =
      qed 𝓛 (‵ (Frame E hs) ∷ []) ∵ fpick ! (λ _. use1 𝓛 (‵ (cell (spot 𝓛 E i) h) ⊛ raw (all 𝓤 (Back 𝓛 E hs i))) (taken 𝓛 E hs i h p) $
      split ! $ frame! ! $
      each ! (Way E hs i) (λ g. assume ! (‵ (cell (spot 𝓛 E i) g)) $ move ! (1 ∷ []) $
      use1 𝓛 (raw (Back 𝓛 E hs i g)) (all_e 𝓤 (Back 𝓛 E hs i) g) $ move ! (1 ∷ 0 ∷ []) $
      use2 𝓛 (‵ (frame E (put i g hs))) (apply∗ 𝓤 (sem 𝓛 (cell (spot 𝓛 E i) g)) (sem 𝓛 (frame E (put i g hs)))) $ by ! (framed E (put i g hs))))

  -- the way back, at what local i is to hold
  pub entry_in : (E : List (Ty × ℕ)) (hs : List Held) (i : ℕ) (g : Held)
      → ent 𝓤 (sep 𝓤 (sem 𝓛 (cell (spot 𝓛 E i) g)) (all 𝓤 (Way E hs i))) (sem 𝓛 (Frame E (put i g hs)))
  entry_in E hs i g =
      via 𝓤 (sep 𝓤 (sem 𝓛 (cell (spot 𝓛 E i) g)) (Way E hs i g)) (mono_r 𝓤 (sem 𝓛 (cell (spot 𝓛 E i) g)) (all_e 𝓤 (Way E hs i) g))
      (apply∗ 𝓤 (sem 𝓛 (cell (spot 𝓛 E i) g)) (sem 𝓛 (Frame E (put i g hs))))

  -- a local's value is lent out of the frame, and put back
  pub lent_out : (E : List (Ty × ℕ)) (hs : List Held) (i : ℕ) (v : Val) → held_at E hs i ≡ some v
      → ent 𝓤 (sem 𝓛 (Frame E hs)) (sep 𝓤 (at_local 𝓛 E i v) (sem 𝓛 (Frame E (put i lent hs))))
  lent_out E hs i v e =
      via 𝓤 (sep 𝓤 (at_local 𝓛 E i v) (all 𝓤 (Way E hs i))) (entry-out E hs i (holds v) (is_value 𝓛 (slot_at E hs i) v e))
      (mono_r 𝓤 (at_local 𝓛 E i v) (via 𝓤 (sep 𝓤 (emp 𝓤) (all 𝓤 (Way E hs i))) (emp∗ 𝓤 (all 𝓤 (Way E hs i))) (entry_in E hs i lent)))

  pub lent_in : (E : List (Ty × ℕ)) (hs : List Held) (i : ℕ) (v : Val) → slot_at E hs i ≡ some lent
      → ent 𝓤 (sep 𝓤 (at_local 𝓛 E i v) (sem 𝓛 (Frame E hs))) (sem 𝓛 (Frame E (put i (holds v) hs)))
  lent_in E hs i v e =
      via 𝓤 (sep 𝓤 (at_local 𝓛 E i v) (all 𝓤 (Way E hs i)))
      (mono_r 𝓤 (at_local 𝓛 E i v) (via 𝓤 (sep 𝓤 (emp 𝓤) (all 𝓤 (Way E hs i))) (entry-out E hs i lent e) (snd∗ 𝓤 (emp 𝓤) (all 𝓤 (Way E hs i)))))
      (entry_in E hs i (holds v))

  room_out : (E : List (Ty × ℕ)) (hs : List Held) (i : ℕ) (o : Option Held) → slot_at E hs i ≡ o → T (there o)
      → ent 𝓤 (sem 𝓛 (Frame E hs)) (sep 𝓤 (H.room (spot 𝓛 E i).0 (spot 𝓛 E i).1 zero) (all 𝓤 (Way E hs i)))
  room_out E hs i none e p = absurd p
  room_out E hs i (some h) e p = via 𝓤 (sep 𝓤 (sem 𝓛 (cell (spot 𝓛 E i) h)) (all 𝓤 (Way E hs i))) (entry-out E hs i h e)
      (mono_l 𝓤 (all 𝓤 (Way E hs i)) (vacated 𝓛 (spot 𝓛 E i) h p))

-- ---- the rules
module _ {M : Type 1} {𝓤 : Ura M} {𝓛 : Logic 𝓤} {K : Type 0} {E : List (Ty × ℕ)} {hs : List Held} where
  open 𝓛 use {H}

  pub within : K → (i : ℕ) {v : Val} → held_at E hs i ≡ some v
      → Part K 𝓛 (‵ (Frame E hs)) full_share (spot 𝓛 E i).0 (spot 𝓛 E i).1 zero v (λ u. ‵ (Frame E (put i (holds u) hs)))
  within t i {v} e = record {
    out =
        let is = is_value 𝓛 (slot_at E hs i) v e in
        let To : Val → SProp 𝓤 = λ u. wand 𝓤 (at_local 𝓛 E i u) (sem 𝓛 (Frame E (put i (holds u) hs))) in
        via 𝓤 (sep 𝓤 (at_local 𝓛 E i v) (all 𝓤 (Way 𝓛 E hs i))) (entry-out 𝓛 E hs i (holds v) is)
        (mono_r 𝓤 (at_local 𝓛 E i v) (all_i 𝓤 To (λ u. all_e 𝓤 (Way 𝓛 E hs i) (holds u))));
    same = ap (λ (gs : List Held). ‵ (Frame E gs)) (put_same 𝓛 E hs i (holds v) (is_value 𝓛 (slot_at E hs i) v e));
  }

  module _ {Γ : List (Item 𝓤)} where
    pub typed : K → {G : Goal 𝓤 H} → (Typed E hs → Seq K 𝓛 (‵ (Frame E hs) ∷ Γ) G) → Seq K 𝓛 (‵ (Frame E hs) ∷ Γ) G
    typed t k = fpick t (λ _. use1 𝓛 (given (Typed E hs) (‵ (frame E hs))) (frame_typed 𝓛 E hs) $
        learn t (λ ts. use1 𝓛 (‵ (Frame E hs)) (framed 𝓛 E hs) $ k ts))

    pub clears : K → (n m : ℕ) {G : Goal 𝓤 H} → Step K 𝓛 (‵ (Frame E (cleared n m hs)) ∷ Γ) G (‵ (Frame E hs) ∷ Γ) G
    clears t n m = use1 𝓛 (‵ (Frame E (cleared n m hs))) (via 𝓤 (sem 𝓛 (frame E hs)) (unframed 𝓛 E hs)
        (via 𝓤 (sem 𝓛 (frame E (cleared n m hs))) (cleared-out 𝓛 n m E hs) (framed 𝓛 E (cleared n m hs))))

    pub into : K → (i : ℕ) {v : Val} → T (owned E hs i && has_ty (spot 𝓛 E i).0 v) → WT v
        → Writes K 𝓛 (‵ (Frame E hs) ∷ Γ) (spot 𝓛 E i).0 (spot 𝓛 E i).1 zero v (‵ (Frame E (put i (holds v) hs)) ∷ Γ)
    into t i {v} p wt = record {
      go = λ P h.
          let τ : Ty = (spot 𝓛 E i).0 in
          let b : ℕ = (spot 𝓛 E i).1 in
          let ok = and_yes (owned E hs i) (has_ty τ v) p in
          qed 𝓛 (‵ (Frame E hs) ∷ Γ) ∵ check ! (ok.1, wt) $ use1 𝓛 (‵ (froom τ b zero) ⊛ raw (all 𝓤 (Way 𝓛 E hs i)))
          (room_out 𝓛 E hs i (slot_at E hs i) refl ok.0) $ split ! $ frame! ! $
          assume ! (‵ (fat full_share τ b zero v)) $ use2 𝓛 (‵ (Frame E (put i (holds v) hs))) (entry_in 𝓛 E hs i (holds v)) $ by ! h;
    }

    module _ {C : Calls 𝓤 H} {Λ : Loops 𝓤 H} where
      pub leaves-within : K → (Kf : Val → SProp 𝓤) {q : Post 𝓤 H} → post 𝓤 H q returnsᴼ ≡ at_return 𝓤 H E Kf returnsᴼ → {r : Val} → held_at E hs zero ≡ some r
          → T (all_owned E hs)
          → Step K 𝓛 Γ (prop (Kf r)) (‵ (Frame E hs) ∷ Γ) (runs C Λ E return q)
      leaves-within t Kf e {r} is p = step (λ s. returns_within t Kf e (look_in t zero (within t zero is)) $ record {
        prf = via 𝓤 (sep 𝓤 (sem 𝓛 (Frame E hs)) (⋆ 𝓛 Γ)) (pop 𝓛 (‵ (Frame E hs)) Γ)
            (via 𝓤 (sep 𝓤 (sem 𝓛 (frame E hs)) (Kf r)) (mono∗ 𝓤 (unframed 𝓛 E hs) s.prf) (freed 𝓛 E hs (Kf r) p));
      })

module _ {M : Type 1} {𝓤 : Ura M} {𝓛 : Logic 𝓤} {K : Type 0} {Γ : List (Item 𝓤)} where
  open 𝓛 use {H}

  pub enters : K → (C : Calls 𝓤 H) (Λ : Loops 𝓤 H) (f : Fn) (vs : List Val) (Kf : Val → SProp 𝓤) → Passes f.locals vs
      → ((l : ℕ → ℕ) → Seq K 𝓛 (‵ (Frame (env_of f.locals l) (entry f.locals vs)) ∷ Γ)
      (runs C Λ (env_of f.locals l) f.body (at_ret (env_of f.locals l) Kf))) → Seq K 𝓛 Γ (prop (WpFn 𝓤 H C Λ f vs Kf))
  unfolding WpFn
  enters t C Λ f vs Kf fit k = record {
    prf = entered 𝓛 f.locals vs (⋆ 𝓛 Γ) (λ E. Wp 𝓤 H C Λ E f.body (at_return 𝓤 H E Kf)) fit (λ l.
        let E : List (Ty × ℕ) = env_of f.locals l in
        let hs : List Held = entry f.locals vs in
        via 𝓤 (sep 𝓤 (sem 𝓛 (Frame E hs)) (⋆ 𝓛 Γ)) (mono_l 𝓤 (⋆ 𝓛 Γ) (framed 𝓛 E hs))
        (via 𝓤 (⋆ 𝓛 (‵ (Frame E hs) ∷ Γ)) (push 𝓛 (‵ (Frame E hs)) Γ) (k l).prf));
  }
