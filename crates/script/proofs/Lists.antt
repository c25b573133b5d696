-- The script of two token lists, one after the other.
use Prim.Native.Nat.{ℕ, ◌≤◌}
use mathlib.Core.Bool.{Bool, true, false, ◌&&◌, cond}
use mathlib.Core.Path.{◌≡◌, refl}
use mathlib.Core.List.{List, [], ◌∷◌, ◌++◌, append_assoc, append-nil}
use native.Mathlib.Omega.{arith}
use borrow.Author.Tests.{eqb-true}
use lib.Dec.{eqb}
use lib.ListN.{length, length-append}
use Rattle.semantics.specs.Operations.{Token}
use Rattle.script.specs.Script.{bytes_of, equal_verify, script, script_after, starts_verify}

-- what the first token writes, by whether it is joined with the next
abbrev first : Bool → Token → List ℕ
first joined t = cond joined (equal_verify ∷ []) (bytes_of t)

after-append : (ts us : List Token) → starts_verify us ≡ false → script_after false (ts ++ us) ≡ script_after false ts ++ script_after false us
after-append [] us e = refl
after-append (t ∷ []) us e = go (eqb t.kind 14)
  where
    go : (equal : Bool) → first (equal && starts_verify us) t ++ script_after (equal && starts_verify us) us
        ≡ (first (equal && false) t ++ script_after (equal && false) []) ++ script_after false us
    go true = rw (e, append-nil (bytes_of t))
    go false = rw (append-nil (bytes_of t))
after-append (t ∷ x ∷ ts) us e = go (eqb t.kind 14 && eqb x.kind 15) (after-append ts us e) (after-append (x ∷ ts) us e)
  where
    go : (joined : Bool) → script_after false (ts ++ us) ≡ script_after false ts ++ script_after false us
        → script_after false (x ∷ ts ++ us) ≡ script_after false (x ∷ ts) ++ script_after false us
        → first joined t ++ script_after joined (x ∷ ts ++ us) ≡ (first joined t ++ script_after joined (x ∷ ts)) ++ script_after false us
    go true p q = rw p
    go false p q = rw (q, append_assoc (bytes_of t) (script_after false (x ∷ ts)) (script_after false us))

-- unless the second begins with a Verify, their scripts follow each other
pub script-append : (ts us : List Token) → starts_verify us ≡ false → script (ts ++ us) ≡ script ts ++ script us
unfolding script
script-append = after-append

longer : (xs ys zs : List ℕ) → length ys ≤ length zs → length (xs ++ ys) ≤ length (xs ++ zs)
longer xs ys zs h = rw (length-append xs ys, length-append xs zs) (omega arith)

-- an Equal is one byte, joined or not
after_longer : (ts us : List Token) → length (script_after false ts) ≤ length (script_after false (ts ++ us))
after_longer [] us = omega arith
after_longer (t ∷ []) us = go (eqb t.kind 14) (starts_verify us) (eqb-true t.kind 14)
  where
    go : (equal starts : Bool) → (equal ≡ true → t.kind ≡ 14)
        → length (first (equal && false) t ++ script_after (equal && false) []) ≤ length (first (equal && starts) t ++ script_after (equal && starts) us)
    go true true h = rw (h refl) (omega arith)
    go true false h = longer (bytes_of t) [] (script_after false us) (omega arith)
    go false starts h = longer (bytes_of t) [] (script_after false us) (omega arith)
after_longer (t ∷ x ∷ ts) us = go (eqb t.kind 14 && eqb x.kind 15) (after_longer ts us) (after_longer (x ∷ ts) us)
  where
    go : (joined : Bool) → length (script_after false ts) ≤ length (script_after false (ts ++ us))
        → length (script_after false (x ∷ ts)) ≤ length (script_after false (x ∷ ts ++ us))
        → length (first joined t ++ script_after joined (x ∷ ts)) ≤ length (first joined t ++ script_after joined (x ∷ ts ++ us))
    go true p q = omega arith
    go false p q = longer (bytes_of t) (script_after false (x ∷ ts)) (script_after false (x ∷ ts ++ us)) q

-- a list that goes on has no shorter script
pub script_longer : (ts us : List Token) → length (script ts) ≤ length (script (ts ++ us))
unfolding script
script_longer = after_longer
