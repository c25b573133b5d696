-- A function's lifetimes and parameters as lists of formulas: the tokens, what each parameter owns, and what is said of each one's last value.
--     tokens, lfts_of, shares_of     the tokens of lifetimes at shares; the lifetimes and the shares of a list of tokens
--     singles          one machine value for each parameter
--     owns_each, owns_each_lem      what each parameter owns, and that it is the signature's `owns`
--     lasts_each, lasts_each_lem    what is said of each one's last value, and that it is the contract's `lasts_of`
--     Short, long      the last values of the parameters that have one, in order; and those of all
use mathlib.Core.Path.{◌≡◌, refl, ap, ◌∙◌}
use mathlib.Core.List.{List, [], ◌∷◌}
use Prim.Native.Nat.{ℕ, zero, suc}
use base.Fraction.{full_share}
use mir.Val.{Val}
use base.Fml.{Lft, Share, Fml, ftrue, ffalse, feq, flt, fsep, fand, for, fwand, fex, fall, fupd, fat, froom, fdies, flft, fdead, fobs, fauth, fres, fbor, fobor}
use base.Fml.{flent, fshr_bor, fhide, fleft, fown, finv, fnamed, ftok, fkid, fme, fsent}
use contract.Lifetimes.{Lfts, Shares}
use denote.Exit.{Exit, unchanged, leaves, Last, left}
use denote.RattleType.{RattleType, Denots, Valss, owns}
use denote.Signature.{Slot, types_at}
use denote.Triple.End.{Kepts, Fins, lasts_of}
use Rattle.walks.proofs.Entries.{nest}

-- ---- tokens
abbrev token : Fml → Lft × Share
token ftrue = ([], full_share)
token ffalse = ([], full_share)
token (feq d x y) = ([], full_share)
token (flt m n) = ([], full_share)
token (fsep P Q) = ([], full_share)
token (fand P Q) = ([], full_share)
token (for P Q) = ([], full_share)
token (fwand P Q) = ([], full_share)
token (fex d F) = ([], full_share)
token (fall d F) = ([], full_share)
token (fupd P) = ([], full_share)
token (fhide P) = ([], full_share)
token (fat q τ b o v) = ([], full_share)
token (froom τ b o) = ([], full_share)
token (fleft q ω τs b o) = ([], full_share)
token (fdies τ b) = ([], full_share)
token (flft κ q) = (κ, q)
token (fdead κ) = ([], full_share)
token (fobs γ x) = ([], full_share)
token (fauth γ x) = ([], full_share)
token (fres γ x) = ([], full_share)
token (fown R γ x) = ([], full_share)
token (fbor κ P) = ([], full_share)
token (fobor κ q P) = ([], full_share)
token (flent κ P) = ([], full_share)
token (fshr_bor κ Φ) = ([], full_share)
token (finv P) = ([], full_share)
token (fnamed n P) = ([], full_share)
token (ftok m) = ([], full_share)
token (fkid h a) = ([], full_share)
token (fme h) = ([], full_share)
token (fsent h) = ([], full_share)

abbrev pub lfts_of : (n : ℕ) → List Fml → Lfts n
lfts_of zero Fs = tt
lfts_of (suc n) [] = ([], lfts_of n [])
lfts_of (suc n) (F ∷ Fs) = ((token F).0, lfts_of n Fs)

abbrev pub shares_of : (n : ℕ) → List Fml → Shares n
shares_of zero Fs = tt
shares_of (suc n) [] = (full_share, shares_of n [])
shares_of (suc n) (F ∷ Fs) = ((token F).1, shares_of n Fs)

abbrev pub tokens : (n : ℕ) → Lfts n → Shares n → List Fml
tokens zero κs qs = []
tokens (suc n) κs qs = flft κs.0 qs.0 ∷ tokens n κs.1 qs.1

-- ---- what the parameters own, and what is said of their last values
abbrev pub singles : (Ts : List RattleType) → List Val → Valss Ts
singles [] vs = tt
singles (R ∷ Ts) [] = ([], singles Ts [])
singles (R ∷ Ts) (v ∷ vs) = (v ∷ [], singles Ts vs)

abbrev pub owns_each : (Ts : List RattleType) → Denots Ts → Valss Ts → List Fml
owns_each [] a vss = []
owns_each (R ∷ Ts) a vss = R.own_val a.0 vss.0 ∷ owns_each Ts a.1 vss.1

pub owns_each_lem : (Ts : List RattleType) (a : Denots Ts) (vss : Valss Ts) → nest (owns_each Ts a vss) ≡ owns Ts a vss
owns_each_lem [] a vss = refl
owns_each_lem (R ∷ Ts) a vss = ap (fsep (R.own_val a.0 vss.0)) (owns_each_lem Ts a.1 vss.1)

module _ {n : ℕ} (κs : Lfts n) where
  abbrev pub lasts_each : (ss : List (Slot n)) (ks : Kepts ss) (a : Denots (types_at ss κs)) → Fins κs ss ks a → List Fml
  lasts_each [] ks a ws = []
  lasts_each (s ∷ ss) ks a ws = left ((s.row κs).exit ks.0) a.0 ws.0 ∷ lasts_each ss ks.1 a.1 ws.1

  pub lasts_each_lem : (ss : List (Slot n)) (ks : Kepts ss) (a : Denots (types_at ss κs)) (ws : Fins κs ss ks a)
      → nest (lasts_each ss ks a ws) ≡ lasts_of κs ss ks a ws
  lasts_each_lem [] ks a ws = refl
  lasts_each_lem (s ∷ ss) ks a ws = ap (fsep (left ((s.row κs).exit ks.0) a.0 ws.0)) (lasts_each_lem ss ks.1 a.1 ws.1)

-- ---- the last values alone
abbrev with_last : {D : Type 0} (e : Exit D) → D → Type 0 → Type 0
with_last unchanged x S = S
with_last (leaves L l Z z r) x S = L x × S

abbrev the_last : {D : Type 0} (e : Exit D) (x : D) (S : Type 0) → with_last e x S → Last e x
the_last unchanged x S w = tt
the_last (leaves L l Z z r) x S w = w.0

abbrev the_rest : {D : Type 0} (e : Exit D) (x : D) (S : Type 0) → with_last e x S → S
the_rest unchanged x S w = w
the_rest (leaves L l Z z r) x S w = w.1

abbrev of_both : {D : Type 0} (e : Exit D) (x : D) (S : Type 0) → Last e x → S → with_last e x S
of_both unchanged x S w s = s
of_both (leaves L l Z z r) x S w s = (w, s)

last_of_both : {D : Type 0} (e : Exit D) (x : D) (S : Type 0) (w : Last e x) (s : S) → the_last e x S (of_both e x S w s) ≡ w
last_of_both unchanged x S w s = refl
last_of_both (leaves L l Z z r) x S w s = refl

rest_of_both : {D : Type 0} (e : Exit D) (x : D) (S : Type 0) (w : Last e x) (s : S) → the_rest e x S (of_both e x S w s) ≡ s
rest_of_both unchanged x S w s = refl
rest_of_both (leaves L l Z z r) x S w s = refl

module _ {n : ℕ} (κs : Lfts n) where
  abbrev pub Short : (ss : List (Slot n)) → Kepts ss → Denots (types_at ss κs) → Type 0
  Short [] ks a = Unit {0}
  Short (s ∷ ss) ks a = with_last ((s.row κs).exit ks.0) a.0 (Short ss ks.1 a.1)

  abbrev pub long : (ss : List (Slot n)) (ks : Kepts ss) (a : Denots (types_at ss κs)) → Short ss ks a → Fins κs ss ks a
  long [] ks a w = tt
  long (s ∷ ss) ks a w =
      let e : Exit (s.row κs).Denot = (s.row κs).exit ks.0 in
      (the_last e a.0 (Short ss ks.1 a.1) w, long ss ks.1 a.1 (the_rest e a.0 (Short ss ks.1 a.1) w))

  pub short : (ss : List (Slot n)) (ks : Kepts ss) (a : Denots (types_at ss κs)) → Fins κs ss ks a → Short ss ks a
  short [] ks a ws = tt
  short (s ∷ ss) ks a ws = of_both ((s.row κs).exit ks.0) a.0 (Short ss ks.1 a.1) ws.0 (short ss ks.1 a.1 ws.1)

  pub long_short : (ss : List (Slot n)) (ks : Kepts ss) (a : Denots (types_at ss κs)) (ws : Fins κs ss ks a) → long ss ks a (short ss ks a ws) ≡ ws
  unfolding short
  long_short [] ks a ws = refl
  long_short (s ∷ ss) ks a ws =
      let e : Exit (s.row κs).Denot = (s.row κs).exit ks.0 in
      let S : Type 0 = Short ss ks.1 a.1 in
      let u : S = short ss ks.1 a.1 ws.1 in
      λ i. (last_of_both e a.0 S ws.0 u i, (ap (long ss ks.1 a.1) (rest_of_both e a.0 S ws.0 u) ∙ long_short ss ks.1 a.1 ws.1) i)
