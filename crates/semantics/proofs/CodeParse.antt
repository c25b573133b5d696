-- Code that parses as a tree is the code of that tree (`code-parse`), and code can say that tree (`parse_encodable`).
use Prim.Native.Nat.{ℕ, suc, ◌+◌, ◌^◌, ◌<◌}
use mathlib.Core.Path.{◌≡◌, refl, sym, ap, ◌∙◌, subst}
use mathlib.Core.Bool.{Bool, true, false, cond, ◌&&◌}
use mathlib.Core.List.{List, [], ◌∷◌, ◌++◌, append_assoc, append-nil}
use native.Mathlib.Omega.{arith}
use borrow.Author.Tests.{eqb-true}
use lib.Dec.{eqb, leb}
use lib.ListN.{length, length-drop, length-take, take, drop, take-append-drop}
use Rattle.slices.specs.Bytes.{All, Bytes, bytes_value, little_endian}
use Rattle.slices.proofs.Bytes.{all_append, all_drop, all_get_d, all_take, bytes_of-value, value_lt}
use Rattle.semantics.specs.Code.{Command, code, command_of, command_row, need_met, expr_code, idx_code}
use Rattle.semantics.specs.Parse.{Instruction, Parsed, Waiting, Walk, built, finished, fold, index, instructions, lengths, nothing, parse, passes, tree_step, value}
use Rattle.semantics.specs.Trees.{Arith, Expr, IdxExpr}
use Rattle.semantics.proofs.Encodable.{Encodable, ExprEncodable, IdxEncodable, OracleEncodable}
use Rattle.semantics.proofs.Instructions.{bytes-instructions, bytes_of, command_byte, need-known}
use Rattle.semantics.proofs.Machine.{refused-stays}
use Rattle.semantics.proofs.ParseCode.{waiting}
use Rattle.semantics.proofs.Tests.{and_true}

-- the code of the trees that wait
expr_codes : List Expr → List ℕ
expr_codes [] = []
expr_codes (x ∷ vs) = expr_codes vs ++ expr_code x

idx_codes : List IdxExpr → List ℕ
idx_codes [] = []
idx_codes (x ∷ is) = idx_codes is ++ idx_code x

code_of : List Arith → List Expr → List IdxExpr → List ℕ
code_of [] vs is = expr_codes vs ++ idx_codes is
code_of (a ∷ ds) vs is = code a

waiting_code : Waiting → List ℕ
waiting_code w = code_of w.conditions w.values w.indexes

empty : (n : List ℕ) → length n ≡ 0 → n ≡ []
empty [] w = refl
empty (b ∷ n) w = absurd (omega arith)

number8 : (n : List ℕ) → length n ≡ 8 → Bytes n → little_endian 8 (bytes_value n) ≡ n
number8 n w h = rw w at (bytes_of-value n h)

key-time : (n : List ℕ) → length n ≡ 40 → Bytes n → take 32 n ++ little_endian 8 (bytes_value (drop 32 n)) ≡ n
key-time n w h = rw (number8 (drop 32 n) (rw (length-drop, w)) (all_drop (λ x. x < 256) 32 n h), take-append-drop 32 n)

-- what a need that is met tells of the trees that wait
none_waits : {A : Type 0} (xs : List A) → eqb (length xs) 0 ≡ true → xs ≡ []
none_waits [] e = refl
none_waits (x ∷ xs) e = absurd (omega (arith, eqb-true (suc (length xs)) 0 e))

-- an operation after its operands, where its own operand bytes are none
module _ (v : List ℕ) (b : ℕ) (n : List ℕ) (w : length n ≡ 0) where
  after_two : (x y : List ℕ) → v ++ (x ++ y ++ b ∷ []) ≡ v ++ x ++ y ++ b ∷ n
  after_two x y = rw (empty n w) (simp append_assoc)

  after_one : (x : List ℕ) → v ++ (x ++ b ∷ []) ≡ v ++ x ++ b ∷ n
  after_one x = rw (empty n w) (simp append_assoc)

-- a command that passes adds its bytes
adds : (c : Command) (n : List ℕ) (vs : List Expr) (is : List IdxExpr) → need_met (command_row c) (length vs) (length is) ≡ true
    → length n ≡ (command_row c).width → Bytes n → waiting_code (built c n (waiting vs is)) ≡ waiting_code (waiting vs is) ++ (command_row c).byte ∷ n
unfolding expr_codes idx_codes code_of waiting_code idx_code expr_code code
adds Command.Unknown n vs is e w h = cc
adds Command.IdxConst n vs is e w h = cc (number8 n w h, append_assoc (expr_codes vs) (idx_codes is) (1 ∷ n))
adds Command.CurrIdx n vs is e w h = cc (empty n w, append_assoc (expr_codes vs) (idx_codes is) (2 ∷ n))
adds (Command.Index o) n vs [] e w h = cc
adds (Command.Index o) n vs (y ∷ []) e w h = cc
adds (Command.Index o) n vs (y ∷ x ∷ is) e w h =
    cc (
      after_two (idx_codes is) (command_row (Command.Index o)).byte n w (idx_code x) (idx_code y),
      append_assoc (expr_codes vs) (idx_codes is ++ idx_code x ++ idx_code y) ((command_row (Command.Index o)).byte ∷ n),
    )
adds Command.Const n vs is e w h = cc (none_waits is e, number8 n w h, append-nil (expr_codes vs), append-nil (expr_codes vs ++ 16 ∷ n))
adds Command.CurrInputIdx n vs is e w h = cc (none_waits is e, empty n w, append-nil (expr_codes vs), append-nil (expr_codes vs ++ 17 ∷ n))
adds (Command.Lookup l) n vs [] e w h = cc
adds (Command.Lookup l) n vs (x ∷ []) e w h =
    cc (after_one (expr_codes vs) (command_row (Command.Lookup l)).byte n w (idx_code x), append-nil (expr_codes vs ++ expr_code (Expr.Lookup l x)))
adds (Command.Lookup l) n vs (x ∷ y ∷ is) e w h = absurd (omega (arith, eqb-true (suc (suc (length is))) 1 e))
adds (Command.Binary o) n [] is e w h = cc
adds (Command.Binary o) n (y ∷ []) is e w h = cc
adds (Command.Binary o) n (y ∷ x ∷ vs) is e w h =
    cc (
      none_waits is (and_true (leb 2 (suc (suc (length vs)))) (eqb (length is) 0) e).1,
      after_two (expr_codes vs) (command_row (Command.Binary o)).byte n w (expr_code x) (expr_code y),
      append-nil (expr_codes vs ++ expr_code x ++ expr_code y),
      append-nil (expr_codes vs ++ expr_code (Expr.Binary o x y)),
    )
adds (Command.Unary o) n [] is e w h = cc
adds (Command.Unary o) n (x ∷ vs) is e w h =
    cc (
      none_waits is (and_true (leb 1 (suc (length vs))) (eqb (length is) 0) e).1,
      after_one (expr_codes vs) (command_row (Command.Unary o)).byte n w (expr_code x),
      append-nil (expr_codes vs ++ expr_code x),
      append-nil (expr_codes vs ++ expr_code (Expr.Unary o x)),
    )
adds Command.PriceOracle1 n vs is e w h = cc (none_waits is e, key-time n w h, append-nil (expr_codes vs), append-nil (expr_codes vs ++ 32 ∷ n))
adds Command.PriceOracle1W n vs is e w h = cc (none_waits is e, key-time n w h, append-nil (expr_codes vs), append-nil (expr_codes vs ++ 33 ∷ n))
adds (Command.Compare o) n [] is e w h = cc
adds (Command.Compare o) n (y ∷ []) is e w h = cc
adds (Command.Compare o) n (y ∷ x ∷ []) is e w h =
    cc (none_waits is e, after_two [] (command_row (Command.Compare o)).byte n w (expr_code x) (expr_code y), append-nil (expr_code x ++ expr_code y))
adds (Command.Compare o) n (y ∷ x ∷ z ∷ vs) is e w h =
    absurd (omega (arith, eqb-true (suc (suc (suc (length vs)))) 2 (and_true (eqb (suc (suc (suc (length vs)))) 2) (eqb (length is) 0) e).0))

-- where the walk ends with a tree, the step before passed
passed : (t : Bool) (ns : List Instruction) (g : Walk Waiting) (at : ℕ) (a : Arith)
    → finished (fold tree_step (cond t g (Walk.refused at)) ns) ≡ Parsed.tree a
    → (t ≡ true) × (finished (fold tree_step g ns) ≡ Parsed.tree a)
passed true ns g at a e = (refl, e)
passed false ns g at a e =
    let q : Parsed.malformed at ≡ Parsed.tree a = sym (ap finished (refused-stays lengths built ns at)) ∙ e in (cc, cc)

-- what it passed by, and the rest of the walk
record Passed (n : Instruction) (ns : List Instruction) (at : ℕ) (w : Waiting) (a : Arith) : Type 0 where
  first : eqb (length w.conditions) 0 ≡ true
  whole : length n.operands ≡ (command_row (command_of n.byte)).width
  need : need_met (command_row (command_of n.byte)) (length w.values) (length w.indexes) ≡ true
  rest : finished (fold tree_step (Walk.going (at + suc (length n.operands)) (built (command_of n.byte) n.operands w)) ns) ≡ Parsed.tree a

step-passed : (n : Instruction) (ns : List Instruction) (at : ℕ) (w : Waiting) (a : Arith)
    → finished (fold tree_step (Walk.going at w) (n ∷ ns)) ≡ Parsed.tree a → Passed n ns at w a
step-passed n ns at w a e =
    let c = command_of n.byte in
    let size = eqb (length n.operands) (command_row c).width in
    let needed = need_met (command_row c) (length w.values) (length w.indexes) in
    let p = passed (passes c n.operands (lengths w)) ns (Walk.going (at + suc (length n.operands)) (built c n.operands w)) at a e in
    let q = and_true (eqb (length w.conditions) 0) (size && needed) p.0 in
    let r = and_true size needed q.1 in
    record { first = q.0; whole = eqb-true (length n.operands) (command_row c).width r.0; need = r.1; rest = p.1 }

code_read : (ns : List Instruction) (at : ℕ) (ds : List Arith) (vs : List Expr) (is : List IdxExpr) (a : Arith)
    → finished (fold tree_step (Walk.going at (record { values = vs; indexes = is; conditions = ds })) ns) ≡ Parsed.tree a
    → Bytes (bytes_of ns) → code a ≡ code_of ds vs is ++ bytes_of ns
unfolding code_of waiting_code
code_read [] at [] vs is a e h = cc
code_read [] at (d ∷ ds) vs is a e h = cc (append-nil (code d))
code_read (n ∷ ns) at (d ∷ ds) vs is a e h =
    let p = step-passed n ns at (record { values = vs; indexes = is; conditions = d ∷ ds }) a e in
    absurd (omega (arith, eqb-true (suc (length ds)) 0 p.first))
code_read (n ∷ ns) at [] vs is a e h =
    let c = command_of n.byte in
    let w = waiting vs is in
    let next = built c n.operands w in
    let p = step-passed n ns at w a e in
    let b = all_append (λ x. x < 256) n.operands (bytes_of ns) h.1 in
    let s = adds c n.operands vs is p.need p.whole b.0 in
    let k = command_byte n.byte (need-known c (length vs) (length is) p.need) in
    let r = code_read ns (at + suc (length n.operands)) next.conditions next.values next.indexes a p.rest b.1 in
    cc (s, r, k, append_assoc (expr_codes vs ++ idx_codes is) (n.byte ∷ n.operands) (bytes_of ns))

pub code-parse : (c : List ℕ) (a : Arith) → Bytes c → parse c ≡ Parsed.tree a → code a ≡ c
unfolding parse code_of expr_codes idx_codes
code-parse c a h e =
    code_read (instructions c) 0 [] [] [] a e (rw (bytes-instructions c) h) ∙ bytes-instructions c

-- the trees that wait can be said in code
abbrev AllEncodable : Waiting → Type 0
AllEncodable w = All ExprEncodable w.values × All IdxEncodable w.indexes × All Encodable w.conditions

number8_lt : (n : List ℕ) → length n ≡ 8 → Bytes n → bytes_value n < 2 ^ 64
number8_lt n w h = rw w at (value_lt n h)

oracle_encodable : (n : List ℕ) → length n ≡ 40 → Bytes n → OracleEncodable (take 32 n) (bytes_value (drop 32 n))
oracle_encodable n w h = (
  rw (length-take, w),
  all_take (λ x. x < 256) 32 n h,
  number8_lt (drop 32 n) (rw (length-drop, w)) (all_drop (λ x. x < 256) 32 n h),
)

built_encodable : (c : Command) (n : List ℕ) (w : Waiting) → length n ≡ (command_row c).width → Bytes n → AllEncodable w → AllEncodable (built c n w)
built_encodable c n w l h s = go c l
  where
    x : (k : ℕ) → ExprEncodable (value w k)
    x k = all_get_d ExprEncodable w.values k Expr.CurrInputIdx tt s.0

    i : (k : ℕ) → IdxEncodable (index w k)
    i k = all_get_d IdxEncodable w.indexes k IdxExpr.CurrIdx tt s.1

    vs : (k : ℕ) → All ExprEncodable (drop k w.values)
    vs k = all_drop ExprEncodable k w.values s.0

    is : (k : ℕ) → All IdxEncodable (drop k w.indexes)
    is k = all_drop IdxEncodable k w.indexes s.1

    go : (c : Command) → length n ≡ (command_row c).width → AllEncodable (built c n w)
    go Command.Unknown l = s
    go Command.IdxConst l = (s.0, (number8_lt n l h, is 0), s.2)
    go Command.CurrIdx l = (s.0, (tt, is 0), s.2)
    go (Command.Index o) l = (s.0, ((i 1, i 0), is 2), s.2)
    go Command.Const l = ((number8_lt n l h, vs 0), is 0, s.2)
    go Command.CurrInputIdx l = ((tt, vs 0), is 0, s.2)
    go (Command.Lookup m) l = ((i 0, vs 0), is 1, s.2)
    go (Command.Binary o) l = (((x 1, x 0), vs 2), is 0, s.2)
    go (Command.Unary o) l = ((x 0, vs 1), is 0, s.2)
    go Command.PriceOracle1 l = ((oracle_encodable n l h, vs 0), is 0, s.2)
    go Command.PriceOracle1W l = ((oracle_encodable n l h, vs 0), is 0, s.2)
    go (Command.Compare o) l = (vs 2, s.1, ((x 1, x 0), s.2))

encodable_read : (ns : List Instruction) (at : ℕ) (w : Waiting) (a : Arith)
    → finished (fold tree_step (Walk.going at w) ns) ≡ Parsed.tree a → Bytes (bytes_of ns) → AllEncodable w → Encodable a
encodable_read [] at w a e h s = last w.conditions e s.2
  where
    last : (ds : List Arith) → finished (Walk.going at (record { values = []; indexes = []; conditions = ds })) ≡ Parsed.tree a → All Encodable ds → Encodable a
    last [] e k = let z : ◌≡◌ {A = ℕ} 0 1 = cc in absurd (omega arith)
    last (d ∷ ds) e k = let q : d ≡ a = cc in subst Encodable q k.0
encodable_read (n ∷ ns) at w a e h s =
    let c = command_of n.byte in
    let p = step-passed n ns at w a e in
    let b = all_append (λ x. x < 256) n.operands (bytes_of ns) h.1 in
    encodable_read ns (at + suc (length n.operands)) (built c n.operands w) a p.rest b.1
    (built_encodable c n.operands w p.whole b.0 s)

pub parse_encodable : (c : List ℕ) (a : Arith) → Bytes c → parse c ≡ Parsed.tree a → Encodable a
unfolding parse
parse_encodable c a h e = encodable_read (instructions c) 0 nothing a e (rw (bytes-instructions c) h) (tt, tt, tt)
