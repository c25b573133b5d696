-- A function's walk from its entry to its exit, and what it proves.
--     Way s k          how a parameter at the slot s is passed and left: its machine value, with the type's laws, and what the walk has of it at exit
--     value D, shared j R      plain data; a `&[R]` at the lifetime numbered j. At exit they are had as they were passed
--     kept_ref, kept-slice     a `&mut` that the walk still has at exit, at its last value
--     gave_ref, gave_slice     one that it has passed on for good: what it has says the last value, and hands the borrow back (`ref_left`, `slice_left`)
--     Site Q c ways    what a function was called with: lifetimes, shares, bounds, arguments and ghost value
--     arg s i, rel s are i     argument i, and its relation to its machine value
--     Start s          the entries behind the locals where the function is entered: a token for each lifetime, then what each parameter owns, in order
--     Had s w          what the walk is to have at its end, at the last values w: the tokens, then what is had of each parameter, in order
--     Begins s 𝓛 f     the walk of the function f, from its entry to what is to hold of the value returned, `After s`
--     returns s D r is w ok refl       a return of r, at the last values w (`Params.antt`'s `Short`): ok is that the `ensures` holds, and the `refl` shows that
--                      local 0 holds r, that no local is lent, and that `Had s w` stands first
--     returns_within   the same from inside an arm or a loop
--     proves           a walk of every site proves that the function's MIR meets its contract
use mathlib.Core.Path.{◌≡◌, refl, sym, ap, subst}
use mathlib.Core.Bool.{Bool, true}
use mathlib.Core.Option.{Option, some}
use mathlib.Core.List.{List, [], ◌∷◌, ◌++◌}
use Prim.Native.Nat.{ℕ, zero, suc}
use seplogic.Ra.Ura.{Ura}
use lib.Dec.{T}
use lib.ListN.{length, take}
use mir.Syntax.{Ty, Fn, named, erased, return}
use mir.Fields.{get_v}
use mir.Val.{Val, vunit, vbool, vint, vfloat, vptr, vcode, vstruct, Vals, vnil, as_int}
use base.Logic.{SProp, ent, sep, emp, id⊢, via, assoc∗, assoc', mono_r, snd∗, emp∗}
use base.Fml.{Lft, Fml, ftrue, fsep, feq, fres, fbor}
use prog.Wp.{Env, Calls, Loops, Tables, WpFn, at_return, returns as returnsᴼ}
use types.Logic.{Logic, sem}
use sound.WpLaws.{WpFn-mono}
use contract.Lifetimes.{Lfts, Shares, AllOutlive, toks}
use contract.Monad.{fact, top}
use types.Kit.{Item, ‵, raw, ◌⊛◌, ⋆, push, pop, Post, post, at_ret, runs, Seq, Sq, ◌$◌, ◌∵◌, !, qed, by, move, keep, use0, use1, use2, recast, rewrite}
use types.Kit.{group, split, fsplit, fsplit3, fjoin, feq_i, suffices, updating, now as at_once, done}
use denote.Exit.{Kept, yes, Last, left}
use denote.RattleType.{RattleType, Denots, Valss, flat, mirs, owns}
use denote.Shadow.{pure_l, makes_shadow}
use denote.Laws.{Is, Tells, Rels, Are, Ises, Spells, valss, Tellss, Lawful, Lawfuls, all_Typed, Typed as TypedAs}
use types.SemTy.{Arr, Body}
use types.Hole.{Holey}
use denote.Memory.{mem}
use denote.Ref.{MutBor, MutRef, at_last, mut_vals, mut_Tells, mut_Lawful}
use denote.Slice.{ShrSlice, MutSlice, slice_val, shr_slice_vals, mut_slice_vals, finally, res-finally, coded_holeys, heres, mut_slice_at, shr_slice_Tells, mut_slice_Tells}
use denote.Slice.{shr_slice_Lawful, mut_slice_Lawful}
use denote.Signature.{Slot, AllWithin, meet_at, plain, mut_ref_to, mut_slice_of, shr_slice_of, type_at, types_at}
use denote.Triple.Clauses.{Ended, Clauses, at_exit, closing}
use denote.Triple.End.{Kepts, Fins}
use denote.Triple.Entry.{Args, on_entry}
use denote.Triple.Spec.{Meets}
use denote.Triple.Walked.{needs, Stays, has_of, fits_of, walk_of, ends_at, AllGo, walked, walk_Meets}
use Rattle.walks.proofs.Call.{tokens_are}
use Rattle.walks.proofs.Params.{tokens, owns_each, owns_each_lem, Short, long}
use Rattle.walks.proofs.Data.{Data}
use Rattle.walks.proofs.Entries.{nest, trimmed}
use Rattle.walks.proofs.Frame.{Held, Frame, held_at, all_owned, env_of, entry, Passes, enters, leaves-within}

pub record Way {n : ℕ} (s : Slot n) (k : Kept) : Type 2 where
  pub val : (κs : Lfts n) → (s.row κs).Denot → Val
  pub tells : (κs : Lfts n) → Tells (s.row κs) (Is (s.row κs)) (λ x. val κs x ∷ [])
  pub lawful : {M : Type 1} {𝓤 : Ura M} (𝓛 : Logic 𝓤) (κs : Lfts n) → Lawful 𝓛 (s.row κs)
  pub has : (κs : Lfts n) (x : (s.row κs).Denot) → Last ((s.row κs).exit k) x → Fml
  pub goes : {M : Type 1} {𝓤 : Ura M} (𝓛 : Logic 𝓤) (κs : Lfts n) (x : (s.row κs).Denot) (f : Last ((s.row κs).exit k) x)
      → ent 𝓤 (sem 𝓛 (has κs x f)) (𝓛.H.⇛ (sem 𝓛 (left ((s.row κs).exit k) x f)))

-- nothing is said at exit
pub quiet : {M : Type 1} {𝓤 : Ura M} (𝓛 : Logic 𝓤) (P : SProp 𝓤) (F : Fml) → F ≡ ftrue → ent 𝓤 P (𝓛.H.⇛ (sem 𝓛 F))
quiet {𝓤 = 𝓤} 𝓛 P F e = subst (λ (G : Fml). ent 𝓤 P (𝓛.H.⇛ (sem 𝓛 G))) (sym e) (via 𝓤 (emp 𝓤) (top 𝓤 P) (𝓛.laws.⇛_intro (emp 𝓤)))

-- the count of a slice's machine value
abbrev fields_of : Val → Vals
fields_of vunit = vnil
fields_of (vbool t) = vnil
fields_of (vint w m) = vnil
fields_of (vfloat f x) = vnil
fields_of (vptr b o) = vnil
fields_of (vcode c) = vnil
fields_of (vstruct vs) = vs

abbrev pub count : List Val → ℕ
count [] = zero
count (v ∷ vs) = as_int zero (get_v (fields_of v) 1) (λ _ m. m)

-- what is left of a `&mut` at exit: what says its last value, and the borrow, which is handed back
module _ (κ : Lft) (R : RattleType) where
  abbrev pub ref_left : MutBor R.Denot → R.Denot → Fml
  ref_left x w = fsep (fres x.ghost_name (R.coded.code w)) (fbor κ (Body (mem R) x.ref_ptr.0 x.ref_ptr.1 x.ghost_name))

  abbrev pub slice_left : MutBor (List R.Denot) → List R.Denot → Fml
  slice_left x ws = fsep (fsep (finally R x.ghost_name ws) (feq ℕ (length ws) (length x.now)))
      (fbor κ (Body (Arr (Holey (mem R)) (length x.now)) x.ref_ptr.0 x.ref_ptr.1 x.ghost_name))

module _ {M : Type 1} {𝓤 : Ura M} (𝓛 : Logic 𝓤) (κ : Lft) (R : RattleType) where
  open 𝓛 use {H}

  pub ref_goes : (x : MutBor R.Denot) (w : R.Denot) → ent 𝓤 (sem 𝓛 ((MutRef erased κ R).own_val (at_last x w) (mut_vals x)))
      (H.⇛ (sem 𝓛 (ref_left κ R x w)))
  ref_goes x w =
      qed 𝓛 (‵ ((MutRef erased κ R).own_val (at_last x w) (mut_vals x)) ∷ []) ∵ updating ! $ at_once ! $ fsplit3 ! $ move ! (1 ∷ []) $
      use1 𝓛 (‵ (fres x.ghost_name (R.coded.code w))) (𝓛.names.obs-res x.ghost_name (R.coded.code w)) $ keep ! (0 ∷ 2 ∷ []) $ done !

  pub slice_goes : (x : MutBor (List R.Denot)) (ws : List R.Denot) → ent 𝓤 (sem 𝓛 ((MutSlice erased κ R).own_val (at_last x ws) (mut_slice_vals x)))
      (H.⇛ (sem 𝓛 (slice_left κ R x ws)))
  slice_goes x ws =
      qed 𝓛 (‵ ((MutSlice erased κ R).own_val (at_last x ws) (mut_slice_vals x)) ∷ []) ∵ updating ! $ at_once ! $ fsplit ! $
      pure_l ! (mut_slice_at R (at_last x ws) (mut_slice_vals x)) (λ p. fsplit ! $
      use1 𝓛 (‵ (fres x.ghost_name ((coded_holeys R).code (heres R ws)))) (𝓛.names.obs-res x.ghost_name ((coded_holeys R).code (heres R ws))) $
      use1 𝓛 (‵ (finally R x.ghost_name ws)) (res-finally 𝓛 erased κ R x.ghost_name ws) $
      rewrite ! 1 (λ (m : ℕ). ‵ (fbor κ (Body (Arr (Holey (mem R)) m) x.ref_ptr.0 x.ref_ptr.1 x.ghost_name))) (sym (ap count p.0)) refl $
      keep ! (0 ∷ 1 ∷ []) $ feq_i ! ℕ (length ws) (length x.now) (sym (ap count p.0)) $ move ! (1 ∷ 0 ∷ []) $ fjoin ! $ done !)

module _ {n : ℕ} where
  abbrev pub value : {R : RattleType} (D : Data R) → ((x : R.Denot) (f : Last (R.exit yes) x) → left (R.exit yes) x f ≡ ftrue)
      → Way {n = n} (plain (λ _. R)) yes
  value {R} D still = record {
    val = λ κs. D.val;
    tells = λ κs. D.tells;
    lawful = λ 𝓛 κs. D.lawful 𝓛;
    has = λ κs x f. R.own_val x (D.val x ∷ []);
    goes = λ 𝓛 κs x f. quiet 𝓛 _ (left (R.exit yes) x f) (still x f);
  }

  module _ (j : ℕ) (ok : AllWithin n (j ∷ [])) (R : RattleType) where
    abbrev pub shared : Way {n = n} (shr_slice_of (j ∷ []) ok (plain (λ _. R))) yes
    shared = record {
      val = λ κs x. slice_val x.ref_ptr (length x.now);
      tells = λ κs. shr_slice_Tells (named j) (meet_at n (j ∷ []) ok κs) R;
      lawful = λ 𝓛 κs. shr_slice_Lawful 𝓛 (named j) (meet_at n (j ∷ []) ok κs) R;
      has = λ κs x f. (ShrSlice (named j) (meet_at n (j ∷ []) ok κs) R).own_val x (shr_slice_vals x);
      goes = λ 𝓛 κs x f. quiet 𝓛 _ ftrue refl;
    }

    abbrev pub kept-slice : Way {n = n} (mut_slice_of (j ∷ []) ok (plain (λ _. R))) yes
    kept-slice = record {
      val = λ κs x. slice_val x.ref_ptr (length x.now);
      tells = λ κs. mut_slice_Tells (named j) (meet_at n (j ∷ []) ok κs) R;
      lawful = λ 𝓛 κs. mut_slice_Lawful 𝓛 (named j) (meet_at n (j ∷ []) ok κs) R;
      has = λ κs x ws. (MutSlice (named j) (meet_at n (j ∷ []) ok κs) R).own_val (at_last x ws) (mut_slice_vals x);
      goes = λ 𝓛 κs. slice_goes 𝓛 (meet_at n (j ∷ []) ok κs) R;
    }

    abbrev pub gave_slice : Way {n = n} (mut_slice_of (j ∷ []) ok (plain (λ _. R))) yes
    gave_slice = record {
      val = kept-slice.val;
      tells = kept-slice.tells;
      lawful = kept-slice.lawful;
      has = λ κs x ws. slice_left (meet_at n (j ∷ []) ok κs) R x ws;
      goes = λ 𝓛 κs x ws. 𝓛.laws.⇛_intro _;
    }

    abbrev pub kept_ref : Way {n = n} (mut_ref_to (j ∷ []) ok (plain (λ _. R))) yes
    kept_ref = record {
      val = λ κs x. vptr x.ref_ptr.0 x.ref_ptr.1;
      tells = λ κs. mut_Tells (named j) (meet_at n (j ∷ []) ok κs) R;
      lawful = λ 𝓛 κs. mut_Lawful 𝓛 (named j) (meet_at n (j ∷ []) ok κs) R;
      has = λ κs x w. (MutRef (named j) (meet_at n (j ∷ []) ok κs) R).own_val (at_last x w) (mut_vals x);
      goes = λ 𝓛 κs. ref_goes 𝓛 (meet_at n (j ∷ []) ok κs) R;
    }

    abbrev pub gave_ref : Way {n = n} (mut_ref_to (j ∷ []) ok (plain (λ _. R))) yes
    gave_ref = record {
      val = kept_ref.val;
      tells = kept_ref.tells;
      lawful = kept_ref.lawful;
      has = λ κs x w. ref_left (meet_at n (j ∷ []) ok κs) R x w;
      goes = λ 𝓛 κs x w. 𝓛.laws.⇛_intro _;
    }

  -- ---- a way for each parameter
  abbrev pub Ways : (ss : List (Slot n)) → Kepts ss → Type 2
  Ways [] ks = Unit {2}
  Ways (s ∷ ss) ks = Way s ks.0 × Ways ss ks.1

  abbrev stays : (ss : List (Slot n)) (ks : Kepts ss) → Ways ss ks → Stays ss ks
  stays [] ks ws = tt
  stays (s ∷ ss) ks ws = (record { fit = λ κs x f. Unit {0}; has = λ κs x f vs. ws.0.has κs x f }, stays ss ks.1 ws.1)

  allgo : {M : Type 1} {𝓤 : Ura M} (𝓛 : Logic 𝓤) (ss : List (Slot n)) (ks : Kepts ss) (ws : Ways ss ks)
      → AllGo 𝓛 n ss ks (stays ss ks ws)
  allgo 𝓛 [] ks ws = tt
  allgo 𝓛 (s ∷ ss) ks ws = ((λ κs x f vs ok. ws.0.goes 𝓛 κs x f), allgo 𝓛 ss ks.1 ws.1)

  module _ (κs : Lfts n) where
    abbrev spells : (ss : List (Slot n)) (ks : Kepts ss) → Ways ss ks → Spells (types_at ss κs)
    spells [] ks ws = tt
    spells (s ∷ ss) ks ws = ((λ x. ws.0.val κs x ∷ []), spells ss ks.1 ws.1)

    telling : (ss : List (Slot n)) (ks : Kepts ss) (ws : Ways ss ks) → Tellss (types_at ss κs) (Ises (types_at ss κs)) (spells ss ks ws)
    telling [] ks ws = tt
    telling (s ∷ ss) ks ws = (ws.0.tells κs, telling ss ks.1 ws.1)

    lawfuls : {M : Type 1} {𝓤 : Ura M} (𝓛 : Logic 𝓤) (ss : List (Slot n)) (ks : Kepts ss) → Ways ss ks
        → Lawfuls 𝓛 (types_at ss κs)
    lawfuls 𝓛 [] ks ws = tt
    lawfuls 𝓛 (s ∷ ss) ks ws = (ws.0.lawful 𝓛 κs, lawfuls 𝓛 ss ks.1 ws.1)

    -- what is had of each at exit
    abbrev pub has_each : (ss : List (Slot n)) (ks : Kepts ss) → Ways ss ks → (a : Denots (types_at ss κs)) → Fins κs ss ks a → List Fml
    has_each [] ks ws a fs = []
    has_each (s ∷ ss) ks ws a fs = ws.0.has κs a.0 fs.0 ∷ has_each ss ks.1 ws.1 a.1 fs.1

    has_each_lem : (ss : List (Slot n)) (ks : Kepts ss) (ws : Ways ss ks) (a : Denots (types_at ss κs)) (fs : Fins κs ss ks a) (us : Valss (types_at ss κs))
        → nest (has_each ss ks ws a fs) ≡ has_of κs ss ks (stays ss ks ws) a fs us
    has_each_lem [] ks ws a fs us = refl
    has_each_lem (s ∷ ss) ks ws a fs us = ap (fsep (ws.0.has κs a.0 fs.0)) (has_each_lem ss ks.1 ws.1 a.1 fs.1 us.1)

    fitting : (ss : List (Slot n)) (ks : Kepts ss) (ws : Ways ss ks) (a : Denots (types_at ss κs)) (fs : Fins κs ss ks a) → fits_of κs ss ks (stays ss ks ws) a fs
    fitting [] ks ws a fs = tt
    fitting (s ∷ ss) ks ws a fs = (tt, fitting ss ks.1 ws.1 a.1 fs.1)

-- ---- formulas as entries
abbrev pub entries : {M : Type 1} {𝓤 : Ura M} → List Fml → List (Item 𝓤)
entries [] = []
entries (F ∷ Fs) = ‵ F ∷ entries Fs

module _ {M : Type 1} {𝓤 : Ura M} (𝓛 : Logic 𝓤) where
  nested : (Fs : List Fml) → ent 𝓤 (⋆ 𝓛 (entries Fs)) (sem 𝓛 (nest Fs))
  nested [] = id⊢ 𝓤 (emp 𝓤)
  nested (F ∷ Fs) = via 𝓤 (sep 𝓤 (sem 𝓛 F) (⋆ 𝓛 (entries Fs))) (pop 𝓛 (‵ F) (entries Fs)) (mono_r 𝓤 (sem 𝓛 F) (nested Fs))

  unnested : (Fs : List Fml) → ent 𝓤 (sem 𝓛 (nest Fs)) (⋆ 𝓛 (entries Fs))
  unnested [] = id⊢ 𝓤 (emp 𝓤)
  unnested (F ∷ Fs) = via 𝓤 (sep 𝓤 (sem 𝓛 F) (⋆ 𝓛 (entries Fs))) (mono_r 𝓤 (sem 𝓛 F) (unnested Fs)) (push 𝓛 (‵ F) (entries Fs))

  parted : (Fs Gs : List Fml) → ent 𝓤 (sem 𝓛 (nest (Fs ++ Gs))) (sep 𝓤 (sem 𝓛 (nest Fs)) (sem 𝓛 (nest Gs)))
  parted [] Gs = emp∗ 𝓤 (sem 𝓛 (nest Gs))
  parted (F ∷ Fs) Gs = via 𝓤 (sep 𝓤 (sem 𝓛 F) (sep 𝓤 (sem 𝓛 (nest Fs)) (sem 𝓛 (nest Gs)))) (mono_r 𝓤 (sem 𝓛 F) (parted Fs Gs))
      (assoc' 𝓤 (sem 𝓛 F) (sem 𝓛 (nest Fs)) (sem 𝓛 (nest Gs)))

  joined : (Fs Gs : List Fml) → ent 𝓤 (sep 𝓤 (sem 𝓛 (nest Fs)) (sem 𝓛 (nest Gs))) (sem 𝓛 (nest (Fs ++ Gs)))
  joined [] Gs = snd∗ 𝓤 (emp 𝓤) (sem 𝓛 (nest Gs))
  joined (F ∷ Fs) Gs = via 𝓤 (sep 𝓤 (sem 𝓛 F) (sep 𝓤 (sem 𝓛 (nest Fs)) (sem 𝓛 (nest Gs))))
      (assoc∗ 𝓤 (sem 𝓛 F) (sem 𝓛 (nest Fs)) (sem 𝓛 (nest Gs))) (mono_r 𝓤 (sem 𝓛 F) (joined Fs Gs))

-- ---- parameters by their numbers
abbrev ArgAt : List RattleType → ℕ → Type 0
ArgAt [] i = Unit {0}
ArgAt (R ∷ Rs) zero = R.Denot
ArgAt (R ∷ Rs) (suc i) = ArgAt Rs i

abbrev arg_at : (Rs : List RattleType) → Denots Rs → (i : ℕ) → ArgAt Rs i
arg_at [] a i = tt
arg_at (R ∷ Rs) a zero = a.0
arg_at (R ∷ Rs) a (suc i) = arg_at Rs a.1 i

abbrev RelAt : (Rs : List RattleType) → Rels Rs → Denots Rs → Valss Rs → ℕ → Type 0
RelAt [] Ps a vss i = Unit {0}
RelAt (R ∷ Rs) Ps a vss zero = Ps.0 a.0 vss.0
RelAt (R ∷ Rs) Ps a vss (suc i) = RelAt Rs Ps.1 a.1 vss.1 i

abbrev rel_at : (Rs : List RattleType) (Ps : Rels Rs) (a : Denots Rs) (vss : Valss Rs) → Are Rs Ps a vss → (i : ℕ) → RelAt Rs Ps a vss i
rel_at [] Ps a vss are i = tt
rel_at (R ∷ Rs) Ps a vss are zero = are.0
rel_at (R ∷ Rs) Ps a vss are (suc i) = rel_at Rs Ps.1 a.1 vss.1 are.1 i

-- ---- entry and exit
pub record Site {M : Type 1} {𝓤 : Ura M} (Q : Ended) (c : Clauses 𝓤 Q) (ways : Ways Q.signature.params Q.kept) : Type 0 where
  pub κs : Lfts Q.signature.lifetimes
  pub qs : Shares Q.signature.lifetimes
  pub bounds : AllOutlive Q.signature.lifetimes Q.signature.outlives κs
  pub args : Args Q.signature κs
  pub ghost : (c κs args).ghost

module _ {M : Type 1} {𝓤 : Ura M} {Q : Ended} {c : Clauses 𝓤 Q} {ways : Ways Q.signature.params Q.kept} (s : Site Q c ways) where
  abbrev Ts : List RattleType
  Ts = types_at Q.signature.params s.κs

  abbrev pub vals : Valss Ts
  vals = valss Ts (spells s.κs Q.signature.params Q.kept ways) s.args

  -- the machine values passed
  abbrev pub values : List Val
  values = flat Ts vals

  abbrev pub Related : Type 0
  Related = Are Ts (Ises Ts) s.args vals

  -- argument i, and its relation to its machine value
  abbrev pub arg : (i : ℕ) → ArgAt Ts i
  arg = arg_at Ts s.args

  abbrev pub rel : Related → (i : ℕ) → RelAt Ts (Ises Ts) s.args vals i
  rel = rel_at Ts (Ises Ts) s.args vals

  abbrev Toks : List Fml
  Toks = tokens Q.signature.lifetimes s.κs s.qs

  abbrev pub Start : List (Item 𝓤)
  Start = entries (Toks ++ owns_each Ts s.args vals)

  abbrev pub Finals : Type 0
  Finals = Short s.κs Q.signature.params Q.kept s.args

  abbrev full : Finals → Fins s.κs Q.signature.params Q.kept s.args
  full = long s.κs Q.signature.params Q.kept s.args

  abbrev Hases : Finals → List Fml
  Hases w = has_each s.κs Q.signature.params Q.kept ways s.args (full w)

  -- what the walk has at its end
  abbrev pub Had : Finals → List Fml
  Had w = Toks ++ Hases w

  abbrev pub Result : RattleType
  Result = type_at Q.signature.result s.κs

  -- local 0 holds the result, no local is lent, and the walk has what it is to have
  abbrev pub Done : List (Ty × ℕ) → List Held → List (Item 𝓤) → Val → Finals → Type 2
  Done E hs Δ v w = ◌≡◌ {A = Option Val × Bool × List (Item 𝓤)} (held_at E hs zero, all_owned E hs, take (length (Had w)) Δ) (some v, true, entries (Had w))

  module _ (𝓛 : Logic 𝓤) where
    abbrev stayed : Stays Q.signature.params Q.kept
    stayed = stays Q.signature.params Q.kept ways

    abbrev pub After : Val → SProp 𝓤
    After = (walk_of 𝓛 Q stayed c).post ((s.κs, s.qs, s.bounds, s.args, vals), s.ghost)

    exited : (D : Data Result) (r : Result.Denot) → Is Result r (D.val r ∷ []) → (w : Finals)
        → ent 𝓤 (emp 𝓤) ((c s.κs s.args).ensures s.ghost r (at_exit Q s.κs s.args (full w)))
        → (Δ : List (Item 𝓤)) → take (length (Had w)) Δ ≡ entries (Had w) → ent 𝓤 (⋆ 𝓛 Δ) (After (D.val r))
    exited D r is w ok Δ e =
        let had : ent 𝓤 (⋆ 𝓛 Δ) (sep 𝓤 (sem 𝓛 (nest Toks)) (sem 𝓛 (nest (Hases w)))) =
        via 𝓤 (⋆ 𝓛 (entries (Had w))) (subst (λ (Γ : List (Item 𝓤)). ent 𝓤 (⋆ 𝓛 Δ) (⋆ 𝓛 Γ)) e (trimmed 𝓛 (length (Had w)) Δ))
        (via 𝓤 (sem 𝓛 (nest (Had w))) (nested 𝓛 (Had w)) (parted 𝓛 Toks (Hases w))) in
        qed 𝓛 (raw (⋆ 𝓛 Δ) ∷ []) ∵ use1 𝓛 (‵ (nest Toks) ⊛ ‵ (nest (Hases w))) had $ split ! $
        suffices ! _ (ends_at 𝓛 Q stayed c ((s.κs, s.qs, s.bounds, s.args, vals), s.ghost) (D.val r) r (full w)
        (fitting s.κs Q.signature.params Q.kept ways s.args (full w))) $
        use0 𝓛 (raw ((c s.κs s.args).ensures s.ghost r (at_exit Q s.κs s.args (full w)))) ok $
        use0 𝓛 (‵ (Result.own_val r (D.val r ∷ []))) (makes_shadow 𝓛 (Result.own_val r (D.val r ∷ [])) (D.pure r (D.val r ∷ [])) is) $
        -- [the result; the `ensures`; the tokens; what is had of the parameters]
        move ! (2 ∷ 3 ∷ 0 ∷ 1 ∷ []) $ recast 𝓛 (raw (toks 𝓛 Q.signature.lifetimes s.κs s.qs))
        (tokens_are 𝓛 Q.signature.lifetimes s.κs s.qs) $
        move ! (1 ∷ []) $ rewrite ! 0 (λ (F : Fml). ‵ F) (has_each_lem s.κs Q.signature.params Q.kept ways s.args (full w) vals) refl $
        move ! (1 ∷ 0 ∷ 2 ∷ []) $ group ! 3 $ done !

  module _ (𝓛 : Logic 𝓤) where
    -- the walk of the function f: from its entry, with local i at the block `l i`
    open 𝓛 use {H}

    abbrev pub Begins : Fn → Tables 𝓤 H → (ℕ → ℕ) → Type 1
    Begins f 𝓣 l = Sq 𝓛 (‵ (Frame (env_of f.locals l) (entry f.locals values)) ∷ Start)
        (runs 𝓣.C 𝓣.Λ (env_of f.locals l) f.body (at_ret (env_of f.locals l) (After 𝓛)))

module _ {M : Type 1} {𝓤 : Ura M} {𝓛 : Logic 𝓤} {K : Type 0} {E : Env 𝓤 𝓛.H} {hs : List Held} {Δ : List (Item 𝓤)} {C : Calls 𝓤 𝓛.H}
    {Λ : Loops 𝓤 𝓛.H} {Q : Ended} {c : Clauses 𝓤 Q} {ways : Ways Q.signature.params Q.kept} where
  open 𝓛 use {H}

  pub returns_within : K → {q : Post 𝓤 H} (s : Site Q c ways) → post 𝓤 H q returnsᴼ ≡ at_return 𝓤 H E (After s 𝓛) returnsᴼ
      → (D : Data (Result s)) (r : (Result s).Denot) → Is (Result s) r (D.val r ∷ []) → (w : Finals s)
      → ent 𝓤 (emp 𝓤) ((c s.κs s.args).ensures s.ghost r (at_exit Q s.κs s.args (full s w)))
      → Done s E hs Δ (D.val r) w → Seq K 𝓛 (‵ (Frame E hs) ∷ Δ) (runs C Λ E return q)
  returns_within t s out D r is w ok e =
      leaves-within t (After s 𝓛) out (ap (λ p. p.0) e) (subst T (sym (ap (λ p. p.1) e)) tt) $ by t (exited s 𝓛 D r is w ok Δ (ap (λ p. p.2) e))

  pub returns : K → (s : Site Q c ways) (D : Data (Result s)) (r : (Result s).Denot) → Is (Result s) r (D.val r ∷ []) → (w : Finals s)
      → ent 𝓤 (emp 𝓤) ((c s.κs s.args).ensures s.ghost r (at_exit Q s.κs s.args (full s w)))
      → Done s E hs Δ (D.val r) w → Seq K 𝓛 (‵ (Frame E hs) ∷ Δ) (runs C Λ E return (at_ret E (After s 𝓛)))
  returns t s = returns_within t s refl

-- ---- what a walk proves
module _ {M : Type 1} {𝓤 : Ura M} (𝓛 : Logic 𝓤) (Q : Ended) (c : Clauses 𝓤 Q) (ways : Ways Q.signature.params Q.kept)
    (f : Fn) (𝓣 : Tables 𝓤 𝓛.H)
    (fits : (s : Site Q c ways) → TypedAs (mirs (Ts s)) (values s) → Passes f.locals (values s)) (Φ : Site Q c ways → Type 0)
    (asks : (s : Site Q c ways) → (c s.κs s.args).requires s.ghost ≡ fact 𝓤 (Φ s))
    (walk : (s : Site Q c ways) → Related s → Φ s → (l : ℕ → ℕ) → Begins s 𝓛 f 𝓣 l) where
  open 𝓛 use {H}

  begins : (s : Site Q c ways) → Related s → Φ s → ent 𝓤 (on_entry 𝓛 Q.signature s.κs s.qs s.args (vals s))
      (WpFn 𝓤 H 𝓣.C 𝓣.Λ f (values s) (After s 𝓛))
  begins s are φ =
      via 𝓤 (⋆ 𝓛 (Start s))
      (qed 𝓛 (raw (toks 𝓛 Q.signature.lifetimes s.κs s.qs) ∷ ‵ (owns (Ts s) s.args (vals s)) ∷ []) ∵
      recast 𝓛 (‵ (nest (Toks s))) (sym (tokens_are 𝓛 Q.signature.lifetimes s.κs s.qs)) $ move ! (1 ∷ []) $
      rewrite ! 0 (λ (F : Fml). ‵ F) (sym (owns_each_lem (Ts s) s.args (vals s))) refl $ move ! (1 ∷ 0 ∷ []) $
      use2 𝓛 (‵ (nest (Toks s ++ owns_each (Ts s) s.args (vals s)))) (joined 𝓛 (Toks s) (owns_each (Ts s) s.args (vals s))) $
      by ! (unnested 𝓛 (Toks s ++ owns_each (Ts s) s.args (vals s))))
      (qed 𝓛 (Start s) ∵ enters ! 𝓣.C 𝓣.Λ f (values s) (After s 𝓛) (fits s
      (all_Typed 𝓛 (Ts s) (lawfuls s.κs 𝓛 Q.signature.params Q.kept ways) s.args (vals s) are)) (walk s are φ))

  pub proves : Meets 𝓛 Q.signature (WpFn 𝓤 H 𝓣.C 𝓣.Λ f) (closing 𝓛 Q c)
  proves = walk_Meets 𝓛 Q (stays Q.signature.params Q.kept ways) (allgo 𝓛 Q.signature.params Q.kept ways) c (WpFn 𝓤 H 𝓣.C 𝓣.Λ f)
      (WpFn-mono 𝓤 H 𝓛.laws 𝓣 f)
      (walked 𝓛 Q (stays Q.signature.params Q.kept ways) c (WpFn 𝓤 H 𝓣.C 𝓣.Λ f) (λ κs. spells κs Q.signature.params Q.kept ways)
      (λ κs. telling κs Q.signature.params Q.kept ways) (λ κs qs bounds a g are.
      let s : Site Q c ways = record { κs = κs; qs = qs; bounds = bounds; args = a; ghost = g } in
      let P : SProp 𝓤 = on_entry 𝓛 Q.signature κs qs a (vals s) in
      subst (λ (R : SProp 𝓤). ent 𝓤 (sep 𝓤 P R) (WpFn 𝓤 H 𝓣.C 𝓣.Λ f (values s) (After s 𝓛))) (sym (asks s)) (needs 𝓤 (Φ s) P (begins s are))))
