-- Bytes written over the front of a buffer, one after another, or where a part of it was lent.
use Prim.Native.Nat.{ℕ, suc, ◌+◌, ◌-◌, ◌≤◌, ◌<◌}
use mathlib.Core.Path.{◌≡◌, refl, sym, ap, ap₂, ◌∙◌}
use mathlib.Core.List.{List, [], ◌∷◌, ◌++◌, append_assoc, append-nil}
use native.Mathlib.Numerals.{add-one}
use native.Mathlib.Omega.{arith}
use borrow.Rule.Slice.PartMut.{mid_of, put_mid}
use lib.ListN.{length, drop, drop_of_length-le, get_or, set, take, length-append, length-drop}
use lib.Seq.{drop_at, drop-cons, drop-drop, set_at, take_all, take_at}
pub use Rattle.slices.specs.Bytes.{Front}
use Rattle.slices.specs.Bytes.{over}

pub front_none : (xs : List ℕ) → Front xs xs [] 0
front_none xs = record { is = refl; long = refl }

pub front_length : {now xs ws : List ℕ} {n : ℕ} → Front now xs ws n → n ≤ length xs → length now ≡ length xs
front_length {now} {xs} {ws} f h = rw f.is (simp (length-append, length-drop) (omega (arith, f.long)))

pub front_whole : {now xs ws : List ℕ} {n : ℕ} → Front now xs ws n → length xs ≤ n → now ≡ ws
front_whole {now} {xs} {ws} f h = f.is ∙ rw (drop_of_length-le xs {i = length ws} (omega (arith, f.long))) (append-nil ws)

-- one character more
pub front-set : {now xs ws : List ℕ} {n : ℕ} (v : ℕ) → Front now xs ws n → n < length xs → Front (set now n v) xs (ws ++ v ∷ []) (n + 1)
front-set {now} {xs} {ws} {n} v f h =
    let all : length (ws ++ v ∷ []) ≡ suc n = length-append ws (v ∷ []) ∙ omega (arith, f.long) in
    record {
      is =
          rw (f.is, f.long, drop-cons xs n 0 h, set_at ws (get_or xs n 0) (drop (suc n) xs) v n f.long, all)
          (sym (append_assoc ws (v ∷ []) (drop (suc n) xs)));
      long = all ∙ sym (add-one n);
    }

-- the next m places were lent, and have come back with r in them
pub front-lent : {now xs ws last r : List ℕ} {n : ℕ} (m : ℕ) → Front now xs ws n → last ≡ r → length r ≡ m → Front (put_mid n m now last) xs (ws ++ r) (n + m)
front-lent {now} {xs} {ws} {last} {r} {n} m f e l =
    let front : take n now ≡ ws = ap (take n) f.is ∙ take_at ws (drop (length ws) xs) n f.long in
    let back : drop n now ≡ drop n xs = ap (drop n) f.is ∙ drop_at ws (drop (length ws) xs) n f.long ∙ ap (λ (k : ℕ). drop k xs) f.long in
    let all : length (ws ++ r) ≡ n + m = length-append ws r ∙ omega (arith, f.long) in
    record {
      is = rw (front, back, e, drop-drop m n xs, ← all) (sym (append_assoc ws r (drop (length (ws ++ r)) xs)));
      long = all;
    }

-- The rest from n on, as `&mut xs[n..]` lends it, and the buffer once the rest is back with ys in it.
rest : (n : ℕ) (xs : List ℕ) → mid_of n (length xs - n) xs ≡ drop n xs
rest n xs = take_all (length xs - n) (drop n xs) (simp length-drop (omega arith))

none_after : (n : ℕ) (xs : List ℕ) → drop (length xs - n) (drop n xs) ≡ []
none_after n xs = drop_of_length-le (drop n xs) {i = length xs - n} (simp length-drop (omega arith))

-- where ws stand at the front, and the callee wrote rs over the rest
pub over-lent
    : (ws rs xs now last : List ℕ) (n : ℕ) → length ws ≡ n → now ≡ over ws xs
    → last ≡ over rs (mid_of n (length now - n) now) → put_mid n (length now - n) now last ≡ over (ws ++ rs) xs
over-lent ws rs xs now last n here e e' =
    let front : take n now ≡ ws = ap (take n) e ∙ take_at ws _ n here in
    let back : drop n now ≡ drop n xs = ap (drop n) e ∙ drop_at ws _ n here ∙ ap (λ (m : ℕ). drop m xs) here in
    let wrote : last ≡ rs ++ drop (n + length rs) xs =
    e' ∙ ap (over rs) (rest n now ∙ back) ∙ ap (λ (l : List ℕ). rs ++ l) (drop-drop (length rs) n xs) in
    let all : length (ws ++ rs) ≡ n + length rs = length-append ws rs ∙ ap (λ (m : ℕ). m + length rs) here in
    ap (λ (l : List ℕ). take n now ++ (last ++ l)) (none_after n now)
    ∙ ap₂ ◌++◌ front (append-nil last ∙ wrote)
    ∙ sym (append_assoc ws rs _ ∙ ap (λ (m : ℕ). ws ++ (rs ++ drop m xs)) all)

-- and the rest has room for m more
pub over-rest
    : (ws xs now : List ℕ) (n m : ℕ) → length ws ≡ n → now ≡ over ws xs → n + m ≤ length xs
    → m ≤ length (mid_of n (length now - n) now)
over-rest ws xs now n m here e h =
    let long : length now ≡ length xs = front_length {now = now} {xs = xs} {ws = ws} {n = n} (record { is = e; long = here }) (omega arith) in
    rw (rest n now) (simp length-drop (omega arith))

-- the same of n bytes that stand there, and m more
pub front_rest : {now xs ws last rs : List ℕ} {n m : ℕ} → Front now xs ws n → Front last (mid_of n (length now - n) now) rs m
    → Front (put_mid n (length now - n) now last) xs (ws ++ rs) (n + m)
front_rest {now} {xs} {ws} {last} {rs} {n} {m} f g =
    record {
      is = over-lent ws rs xs now last n f.long f.is g.is;
      long = length-append ws rs ∙ omega (arith, f.long, g.long);
    }

pub front-room : {now xs ws : List ℕ} {n : ℕ} (m : ℕ) → Front now xs ws n → n + m ≤ length xs → m ≤ length (mid_of n (length now - n) now)
front-room {now} {xs} {ws} {n} m f h = over-rest ws xs now n m f.long f.is h
