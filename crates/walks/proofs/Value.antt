-- What an operand or a right side of MIR evaluates to, computed from what the locals hold.
--     opd_of, opds_of    the value of an operand, and of a list of them: constants, a local, its fields, and the tag and the fields of its live variant
--     rv_of             that of a right side: an operand, an aggregate, the address of a local, and the address behind a pointer that a local holds, `&*r`
--     along fin        a value's part along the steps of a place; fin says what is had at their end, or at a pointer
--     rv_good          a value that is computed is one that its width holds, if what the locals hold are
use mathlib.Core.Path.{◌≡◌, refl, sym, subst, ap, ◌∙◌}
use mathlib.Core.Bool.{Bool, true, false}
use mathlib.Core.List.{List, [], ◌∷◌}
use mathlib.Core.Option.{Option, none, some, none-ne-some, some-injective}
use Prim.Native.Nat.{ℕ, zero, suc, ◌^◌}
use lib.Dec.{T, ltb, ltb→lt, eqb}
use lib.ListN.{get_or}
use mir.Fields.{get_v}
use mir.Syntax.{Sym, Width, w8, w16, w32, w64, w128, Ty, ty_int, ty_bool, ty_float, ty_ptr, ty_ref, ty_array, ty_unit, ty_struct, ty_enum, ty_named, ty_param, ty_const, ty_array_p, Tys, Tyss, ttnil}
use mir.Syntax.{Step as PStep, deref, field, variant, place, Opd as Operand, copy, int, int_neg, int_big, float, opd_true, opd_false, opd_unit, ptr_const, size_of, align_of, num_of, fn_addr, vtable}
use mir.Syntax.{Rv as RValue, rv_opd, op1, op2, addr_of, aggregate, repeat, repeat_p, select}
use mir.Val.{Val, vunit, vbool, vint, vfloat, vptr, vcode, vstruct, Vals, vnil, vcons, of_list, WT, WTs, bits}
use prog.Memory.{field_at, variant_at}
use Rattle.walks.proofs.Frame.{Held, held_at, Typed}

-- ---- the computation
abbrev pub on : {X Y : Type 0} → Option X → (X → Option Y) → Option Y
on none f = none
on (some x) f = f x

abbrev pub only_if : {X : Type 0} → Bool → Option X → Option X
only_if true x = x
only_if false x = none

-- a value and a type as the struct or the enum that it is, if it is one
abbrev pub struct : (v : Val) → Option ((us : Vals) × (v ≡ vstruct us))
struct vunit = none
struct (vbool b) = none
struct (vint w n) = none
struct (vfloat f x) = none
struct (vptr b o) = none
struct (vcode c) = none
struct (vstruct us) = some (us, refl)

abbrev pub live_one : (us : Vals) → Option ((kw : ℕ × Vals) × (us ≡ vcons (vint w8 kw.0) kw.1))
live_one vnil = none
live_one (vcons vunit us) = none
live_one (vcons (vbool b) us) = none
live_one (vcons (vint w8 k) us) = some ((k, us), refl)
live_one (vcons (vint w16 k) us) = none
live_one (vcons (vint w32 k) us) = none
live_one (vcons (vint w64 k) us) = none
live_one (vcons (vint w128 k) us) = none
live_one (vcons (vfloat f x) us) = none
live_one (vcons (vptr b o) us) = none
live_one (vcons (vcode c) us) = none
live_one (vcons (vstruct ws) us) = none

abbrev pub struct_type : (τ : Ty) → Option ((s : Sym × Tys) × (τ ≡ ty_struct s.0 s.1))
struct_type (ty_int w) = none
struct_type ty_bool = none
struct_type (ty_float f) = none
struct_type ty_ptr = none
struct_type (ty_ref κ μ τ) = none
struct_type (ty_array τ n) = none
struct_type ty_unit = none
struct_type (ty_struct ν τs) = some ((ν, τs), refl)
struct_type (ty_enum ν τss) = none
struct_type (ty_param n) = none
struct_type (ty_const n) = none
struct_type (ty_array_p τ n) = none
struct_type (ty_named h τs) = none

abbrev pub enum_type : (τ : Ty) → Option ((s : Sym × Tyss) × (τ ≡ ty_enum s.0 s.1))
enum_type (ty_int w) = none
enum_type ty_bool = none
enum_type (ty_float f) = none
enum_type ty_ptr = none
enum_type (ty_ref κ μ τ) = none
enum_type (ty_array τ n) = none
enum_type ty_unit = none
enum_type (ty_struct ν τs) = none
enum_type (ty_enum ν τss) = some ((ν, τss), refl)
enum_type (ty_param n) = none
enum_type (ty_const n) = none
enum_type (ty_array_p τ n) = none
enum_type (ty_named h τs) = none

-- along the steps of a place; fin says what is had at their end, or at a pointer
module _ (fin : Val → List PStep → Option Val) where
  abbrev pub along : Ty → Val → List PStep → Option Val
  along τ v [] = fin v []
  along τ v (deref σ ∷ st) = fin v (deref σ ∷ st)
  along τ v (field k ∷ st) = on (struct v) (λ s. on (struct_type τ) (λ y. on (field_at zero y.0.1 k) (λ f. along f.0 (get_v s.0 k) st)))
  along τ v (variant k ∷ []) = none
  along τ v (variant k ∷ deref σ ∷ st) = none
  along τ v (variant k ∷ variant j ∷ st) = none
  along τ v (variant k ∷ field zero ∷ []) = on (struct v) (λ s. on (live_one s.0)
      (λ l. on (enum_type τ) (λ y. on (variant_at y.0.1 k) (λ τs. fin (vint w8 l.0.0) []))))
  along τ v (variant k ∷ field zero ∷ s ∷ st) = none
  along τ v (variant k ∷ field (suc j) ∷ st) =
      on (struct v) (λ s. on (live_one s.0) (λ l. on (enum_type τ) (λ y. on (variant_at y.0.1 k)
      (λ τs. only_if (eqb l.0.0 k) (on (field_at 1 τs j) (λ f. along f.0 (get_v l.0.1 j) st))))))

abbrev pub as_read : Val → List PStep → Option Val
as_read v [] = some v
as_read v (s ∷ st) = none

abbrev pub pointer : Val → Option Val
pointer vunit = none
pointer (vbool b) = none
pointer (vint w n) = none
pointer (vfloat f x) = none
pointer (vptr b o) = some (vptr b o)
pointer (vcode c) = none
pointer (vstruct vs) = none

abbrev pub behind : Val → List PStep → Option Val
behind v [] = none
behind v (deref σ ∷ []) = pointer v
behind v (deref σ ∷ s ∷ st) = none
behind v (field k ∷ st) = none
behind v (variant k ∷ st) = none

-- ---- operands and right sides
abbrev pub type_at : List (Ty × ℕ) → ℕ → Ty
type_at E i = (get_or E i (ty_enum [] ttnil, zero)).0

abbrev pub opd_of : List (Ty × ℕ) → List Held → Operand → Option Val
opd_of E hs (copy (place i st)) = on (held_at E hs i) (λ v. along as_read (type_at E i) v st)
opd_of E hs (int w n) = only_if (ltb n (2 ^ bits w)) (some (vint w n))
opd_of E hs (int_neg w n) = none
opd_of E hs (int_big w n) = none
opd_of E hs (float f n) = none
opd_of E hs opd_true = some (vbool true)
opd_of E hs opd_false = some (vbool false)
opd_of E hs opd_unit = some vunit
opd_of E hs (ptr_const n) = none
opd_of E hs (size_of τ) = none
opd_of E hs (align_of τ) = none
opd_of E hs (num_of w τ) = none
opd_of E hs (fn_addr c σ) = none
opd_of E hs (vtable τ ss) = none

abbrev pub opds_of : List (Ty × ℕ) → List Held → List Operand → Option (List Val)
opds_of E hs [] = some []
opds_of E hs (x ∷ xs) = on (opd_of E hs x) (λ v. on (opds_of E hs xs) (λ vs. some (v ∷ vs)))

abbrev pub rv_of : List (Ty × ℕ) → List Held → RValue → Option Val
rv_of E hs (rv_opd x) = opd_of E hs x
rv_of E hs (op1 o x) = none
rv_of E hs (op2 o x y) = none
rv_of E hs (addr_of (place i [])) = some (vptr (get_or E i (ty_enum [] ttnil, zero)).1 zero)
rv_of E hs (addr_of (place i (s ∷ st))) = on (held_at E hs i) (λ v. along behind (type_at E i) v (s ∷ st))
rv_of E hs (aggregate xs) = on (opds_of E hs xs) (λ vs. some (vstruct (of_list vs)))
rv_of E hs (repeat x n) = none
rv_of E hs (repeat_p x n) = none
rv_of E hs (select x y z) = none

-- ---- a value that is read is one that its width holds
abbrev Good : Option Val → Type 0
Good none = Unit {0}
Good (some v) = WT v

good : (w : Option Val) (v : Val) → w ≡ some v → Good w → WT v
good none v e g = absurd (none-ne-some v e)
good (some u) v e g = subst WT (some-injective u v e) g

on_good : {X : Type 0} (o : Option X) (f : X → Option Val) → ((x : X) → Good (f x)) → Good (on o f)
on_good none f k = tt
on_good (some x) f k = k x

if_good : (c : Bool) (w : Option Val) → (c ≡ true → Good w) → Good (only_if c w)
if_good true w k = k refl
if_good false w k = tt

pub part_good : (us : Vals) (k : ℕ) → WTs us → WT (get_v us k)
part_good vnil k g = tt
part_good (vcons u us) zero g = g.0
part_good (vcons u us) (suc k) g = part_good us k g.1

module _ (fin : Val → List PStep → Option Val) (ok : (v : Val) (st : List PStep) → WT v → Good (fin v st)) where
  along_good : (st : List PStep) (τ : Ty) (v : Val) → WT v → Good (along fin τ v st)
  along_good [] τ v g = ok v [] g
  along_good (deref σ ∷ st) τ v g = ok v (deref σ ∷ st) g
  along_good (field k ∷ st) τ v g = on_good (struct v) _ (λ s. on_good (struct_type τ) _
      (λ y. on_good (field_at zero y.0.1 k) _ (λ f. along_good st f.0 (get_v s.0 k) (part_good s.0 k (subst WT s.1 g)))))
  along_good (variant k ∷ []) τ v g = tt
  along_good (variant k ∷ deref σ ∷ st) τ v g = tt
  along_good (variant k ∷ variant j ∷ st) τ v g = tt
  along_good (variant k ∷ field zero ∷ []) τ v g = on_good (struct v) _ (λ s. on_good (live_one s.0) _
      (λ l. on_good (enum_type τ) _ (λ y. on_good (variant_at y.0.1 k) _ (λ τs.
      ok (vint w8 l.0.0) [] (subst WT (s.1 ∙ ap vstruct l.1) g).0))))
  along_good (variant k ∷ field zero ∷ s ∷ st) τ v g = tt
  along_good (variant k ∷ field (suc j) ∷ st) τ v g = on_good (struct v) _
      (λ s. on_good (live_one s.0) _ (λ l. on_good (enum_type τ) _ (λ y. on_good (variant_at y.0.1 k) _ (λ τs.
      if_good (eqb l.0.0 k) _ (λ _. on_good (field_at 1 τs j) _ (λ f. along_good st f.0 (get_v l.0.1 j)
      (part_good l.0.1 j (subst WT (s.1 ∙ ap vstruct l.1) g).1)))))))

pub on_some : {X Y : Type 0} (o : Option X) (f : X → Option Y) (y : Y) → on o f ≡ some y → (x : X) × (o ≡ some x) × (f x ≡ some y)
on_some none f y e = absurd (none-ne-some y e)
on_some (some x) f y e = (x, refl, e)

pub if_some : {X : Type 0} (c : Bool) (o : Option X) (x : X) → only_if c o ≡ some x → T c × (o ≡ some x)
if_some true o x e = (tt, e)
if_some false o x e = absurd (none-ne-some x e)

held_good : (E : List (Ty × ℕ)) (hs : List Held) (i : ℕ) → Typed E hs → Good (held_at E hs i)
held_good [] hs i ts = tt
held_good (e ∷ E) [] i ts = tt
held_good (e ∷ E) (Held.empty ∷ hs) zero ts = tt
held_good (e ∷ E) (Held.holds v ∷ hs) zero ts = ts.0.1
held_good (e ∷ E) (Held.lent ∷ hs) zero ts = tt
held_good (e ∷ E) (h ∷ hs) (suc i) ts = held_good E hs i ts.1

read_good : (v : Val) (st : List PStep) → WT v → Good (as_read v st)
read_good v [] g = g
read_good v (s ∷ st) g = tt

pointer_good : (v : Val) → Good (pointer v)
pointer_good vunit = tt
pointer_good (vbool b) = tt
pointer_good (vint w n) = tt
pointer_good (vfloat f x) = tt
pointer_good (vptr b o) = tt
pointer_good (vcode c) = tt
pointer_good (vstruct vs) = tt

behind_good : (v : Val) (st : List PStep) → WT v → Good (behind v st)
behind_good v [] g = tt
behind_good v (deref σ ∷ []) g = pointer_good v
behind_good v (deref σ ∷ s ∷ st) g = tt
behind_good v (field k ∷ st) g = tt
behind_good v (variant k ∷ st) g = tt

-- at a local that holds a value
at_good : (E : List (Ty × ℕ)) (hs : List Held) (i : ℕ) (f : Val → Option Val) → Typed E hs → ((v : Val) → WT v → Good (f v)) → Good (on (held_at E hs i) f)
at_good E hs i f ts k = go (held_at E hs i) (held_good E hs i ts)
  where
    go : (o : Option Val) → Good o → Good (on o f)
    go none g = tt
    go (some v) g = k v g

lit_good : (w : Width) (n : ℕ) → Good (only_if (ltb n (2 ^ bits w)) (some (vint w n)))
lit_good w n = if_good (ltb n (2 ^ bits w)) (some (vint w n)) (λ c. record { fits = ltb→lt n (2 ^ bits w) (subst T (sym c) tt) })

opd_good : (E : List (Ty × ℕ)) (hs : List Held) → Typed E hs → (x : Operand) → Good (opd_of E hs x)
opd_good E hs ts (copy (place i st)) = at_good E hs i (λ v. along as_read (type_at E i) v st) ts (along_good as_read read_good st (type_at E i))
opd_good E hs ts (int w n) = lit_good w n
opd_good E hs ts (int_neg w n) = tt
opd_good E hs ts (int_big w n) = tt
opd_good E hs ts (float f n) = tt
opd_good E hs ts opd_true = tt
opd_good E hs ts opd_false = tt
opd_good E hs ts opd_unit = tt
opd_good E hs ts (ptr_const n) = tt
opd_good E hs ts (size_of τ) = tt
opd_good E hs ts (align_of τ) = tt
opd_good E hs ts (num_of w τ) = tt
opd_good E hs ts (fn_addr c σ) = tt
opd_good E hs ts (vtable τ ss) = tt

opds_good : (E : List (Ty × ℕ)) (hs : List Held) → Typed E hs → (xs : List Operand) (vs : List Val) → opds_of E hs xs ≡ some vs → WTs (of_list vs)
opds_good E hs ts [] vs e = subst (λ (us : List Val). WTs (of_list us)) (some-injective [] vs e) tt
opds_good E hs ts (x ∷ xs) vs e =
    let a = on_some (opd_of E hs x) (λ v. on (opds_of E hs xs) (λ us. some (v ∷ us))) vs e in
    let b = on_some (opds_of E hs xs) (λ us. some (a.0 ∷ us)) vs a.2 in
    subst (λ (us : List Val). WTs (of_list us)) (some-injective (a.0 ∷ b.0) vs b.2)
    (good (opd_of E hs x) a.0 a.1 (opd_good E hs ts x), opds_good E hs ts xs b.0 b.1)

pub rv_good : (E : List (Ty × ℕ)) (hs : List Held) → Typed E hs → (r : RValue) (v : Val) → rv_of E hs r ≡ some v → WT v
rv_good E hs ts (rv_opd x) v e = good (opd_of E hs x) v e (opd_good E hs ts x)
rv_good E hs ts (op1 o x) v e = absurd (none-ne-some v e)
rv_good E hs ts (op2 o x y) v e = absurd (none-ne-some v e)
rv_good E hs ts (addr_of (place i [])) v e = good (rv_of E hs (addr_of (place i []))) v e tt
rv_good E hs ts (addr_of (place i (s ∷ st))) v e = good (rv_of E hs (addr_of (place i (s ∷ st)))) v e
    (at_good E hs i (λ u. along behind (type_at E i) u (s ∷ st)) ts (along_good behind behind_good (s ∷ st) (type_at E i)))
rv_good E hs ts (aggregate xs) v e =
    let a = on_some (opds_of E hs xs) (λ vs. some (vstruct (of_list vs))) v e in
    subst WT (some-injective (vstruct (of_list a.0)) v a.2) (opds_good E hs ts xs a.0 a.1)
rv_good E hs ts (repeat x n) v e = absurd (none-ne-some v e)
rv_good E hs ts (repeat_p x n) v e = absurd (none-ne-some v e)
rv_good E hs ts (select x y z) v e = absurd (none-ne-some v e)
