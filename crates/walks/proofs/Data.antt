-- What a walk asks of the type of plain data: a number, a struct or an enum that holds no reference. One record for each, so that a rule takes one argument.
--     Data R           a value's one machine value, that R's relation tells it, that R owns only facts, and R's laws
--     Fielded          a declared struct of plain data, by the names that its generated modules have: `the_type`, `the_laws`, `the_plain`
--     number, struct, enum     `Data` of an unsigned integer, of a declared struct and of a declared enum
--     shaped           the machine value of what R's relation holds is of R's MIR type
--     is_val           the relation at the machine value itself
use mathlib.Core.Path.{subst}
use mathlib.Core.List.{List, [], ◌∷◌}
use seplogic.Ra.Ura.{Ura}
use lib.Dec.{T}
use mir.Syntax.{Ty, Width}
use mir.Val.{Val, vint, WT, has_ty}
use types.Logic.{Logic}
use denote.RattleType.{RattleType}
use denote.Shadow.{Pure}
use denote.Laws.{Is, Tells, Typed, Lawful}
use denote.Memory.{lone}
use denote.Plain.{UInt, uint_Tells, uint_Lawful}
use denote.Struct.Declared as SD
use denote.Struct.Laws as LL
use denote.Struct.Struct.{Plains, Struct-Pure}
use denote.Enum.Declared as ED
use denote.Enum.Enum.{Few, Plainss}
use denote.Enum.Laws as EL

-- pairs, so that a long tuple needs no brackets
infixr 2 ◌&◌
abbrev pub ◌&◌ {α β} : {X : Type α} {Y : Type β} → X → Y → X × Y
x & y = (x, y)

pub record Data (R : RattleType) : Type 2 where
  pub val : R.Denot → Val
  pub tells : Tells R (Is R) (λ x. val x ∷ [])
  pub pure : (x : R.Denot) (vs : List Val) → Pure (R.own_val x vs)
  pub lawful : {M : Type 1} {𝓤 : Ura M} (𝓛 : Logic 𝓤) → Lawful 𝓛 R

abbrev pub number : (w : Width) → Data (UInt w)
number w = record { val = vint w; tells = uint_Tells w; pure = λ x vs. (tt, tt); lawful = λ 𝓛. uint_Lawful 𝓛 w }

pub record Fielded : Type 2 where
  pub type : SD.Declared
  pub laws : LL.Laws type
  pub plain : Plains (SD.fields type)

abbrev pub struct : (F : Fielded) → Data (SD.row F.type)
struct F = record {
  val = LL.val F.type F.laws;
  tells = LL.tells F.type F.laws;
  pure = λ x vs. Struct-Pure (SD.shape F.type) F.plain (F.type.to x) vs;
  lawful = λ 𝓛. LL.lawful F.type F.laws 𝓛;
}

abbrev pub enum : (D : ED.Declared) → EL.Laws D → Plainss (ED.variants D) → Few (ED.shape D) → Data (ED.row D)
enum D L pl few = record { val = EL.val D L; tells = EL.tells D L; pure = EL.pure D pl; lawful = λ 𝓛. EL.lawful D L 𝓛 few }

one_typed : (τs : List Ty) (v : Val) → Typed τs (v ∷ []) → T (has_ty (lone τs) v) × WT v
one_typed [] v t = absurd t
one_typed (τ ∷ []) v t = t.0
one_typed (τ ∷ σ ∷ τs) v t = absurd t.1

module _ {R : RattleType} (D : Data R) where
  pub is_val : (x : R.Denot) (v : Val) → Is R x (v ∷ []) → Is R x (D.val x ∷ [])
  is_val x v is = subst (Is R x) (D.tells x (v ∷ []) is) is

  pub fits : {M : Type 1} {𝓤 : Ura M} (𝓛 : Logic 𝓤) (x : R.Denot) (v : Val) → Is R x (v ∷ []) → T (has_ty (lone R.mir) v)
      × WT v
  fits {𝓤 = 𝓤} 𝓛 x v is = one_typed R.mir v ((D.lawful 𝓛).typed x (v ∷ []) is)

  pub shaped : {M : Type 1} {𝓤 : Ura M} (𝓛 : Logic 𝓤) (x : R.Denot) → Is R x (D.val x ∷ [])
      → T (has_ty (lone R.mir) (D.val x))
  shaped 𝓛 x is = (fits 𝓛 x (D.val x) is).0
