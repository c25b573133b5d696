-- What an oracle terminal makes of the witness and of the buffer for the checks.
use Rattle.std.proofs.Common.{◌≡◌, ℕ, ◌+◌, ◌-◌, ◌*◌, ◌^◌, ◌≤◌, Bool, true, false, cond, List, ◌++◌, append_assoc, length, take, drop, ltb, refl, sym, ap, ◌∙◌, arith, length-append, ℤ, pos, Result, Ok, Err}
use Rattle.std.proofs.lemmas.List.{take_all}
use lib.Seq.{drop_at, drop-drop, length_paste_head, length-take-le, paste, take_at}
use Rattle.slices.specs.Bytes.{bytes_value}
use Rattle.semantics.specs.declared.Refusal.{Refusal}
use Rattle.semantics.specs.Evaluate.{ends_sound}
use Rattle.semantics.specs.Evaluation.{Outcome, State, after_price, after_signature, after_time, check_bytes, err, in_future, ok, onward, oracle, outcome, pop}
use Rattle.witness.specs.declared.Progress.{Progress}
use Rattle.witness.specs.Elements.{fewer, state_of, taken}
use Rattle.witness.specs.Oracle.{Gives, priced}
use Rattle.witness.proofs.Left.{answered, pop_taken}

-- an element is popped on the way to an oracle terminal's value; what is left to do (k) is done with it, if there is one
module _ (w ends old : List ℕ) (p : Progress) (width : ℕ) (absent wrong : Refusal) (k : List ℕ → State → Outcome State ℤ) where
  pub pops_found : (new e : List ℕ) (q : Progress) (v : Result ℤ Refusal) (p' : Progress) → q ≡ fewer p
      → pop width absent wrong (state_of w ends old p.left p.checks) ≡ ok e (state_of w ends old q.left q.checks) → Gives (k e) w ends old new q v p'
      → Gives (λ st. onward (pop width absent wrong st) k) w ends old new p v p'
  pops_found new e q v p' f is g =
      let left : q.left ≡ p.left - 1 = rw f in
      let checks : q.checks ≡ p.checks = rw f in
      record {
        gives = rw is g.gives;
        fewer = omega (arith, g.fewer, left);
        more = omega (arith, g.more, checks);
        one = omega (arith, g.one, checks);
        kept = g.kept;
      }

  pub pops_refused : (x : Refusal) (q : Progress) → q ≡ fewer p
      → pop width absent wrong (state_of w ends old p.left p.checks) ≡ err x (state_of w ends old q.left q.checks)
      → Gives (λ st. onward (pop width absent wrong st) k) w ends old old p (Err x) q
  pops_refused x q f is =
      let left : q.left ≡ p.left - 1 = rw f in
      let checks : q.checks ≡ p.checks = rw f in
      record { gives = rw is; fewer = omega (arith, left); more = omega (arith, checks); one = omega (arith, checks); kept = refl }

-- what an oracle terminal gives, by what the ends say of each of its pops (`first`)
module _ (w ends old new : List ℕ) (v : Result ℤ Refusal) (p' : Progress) where
  -- K holds of the bytes that a pop gave; after a refusal nothing more is done, and q is had
  abbrev pub Then : Result (List ℕ) Refusal → Progress → (List ℕ → Type 0) → Type 0
  Then (Ok e) q K = K e
  Then (Err x) q K = (v ≡ Err x) × (new ≡ old) × (p' ≡ q)

  by_pop : ends_sound 0 (length w) ends ≡ true → (width : ℕ) (absent wrong : Refusal) (k : List ℕ → State → Outcome State ℤ) (K : List ℕ → Type 0) (p : Progress)
      → p.left ≤ length ends → ((e : List ℕ) → K e → Gives (k e) w ends old new (fewer p) v p')
      → Then (answered w ends width absent wrong p.left) (fewer p) K → Gives (λ st. onward (pop width absent wrong st) k) w ends old new p v p'
  by_pop sound width absent wrong k K p few more settles =
      go (answered w ends width absent wrong p.left) (pop_taken w ends old p.checks width absent wrong sound p.left few) settles
    where
      go : (r : Result (List ℕ) Refusal)
          → pop width absent wrong (state_of w ends old p.left p.checks) ≡ taken (λ e. e) r (state_of w ends old (p.left - 1) p.checks)
          → Then r (fewer p) K → Gives (λ st. onward (pop width absent wrong st) k) w ends old new p v p'
      go (Ok e) is g = pops_found w ends old p width absent wrong k new e (fewer p) v p' refl is (more e g)
      go (Err x) is g = rw (g.0, g.1, g.2) (pops_refused w ends old p width absent wrong k x (fewer p) refl is)

  module _ (key : List ℕ) (time : ℕ) where
    abbrev Signed : List ℕ → List ℕ → Progress → Type 0
    Signed price witnessTime p =
        Then (answered w ends 64 Refusal.MissingOracleSignature Refusal.MalformedSig p.left) (fewer p)
        (λ signature. Gives (after_signature key time price witnessTime signature) w ends old new (fewer p) v p')

    abbrev Timed : List ℕ → Progress → Type 0
    Timed price p =
        Then (answered w ends 8 Refusal.MissingTimestamp Refusal.Timstamp8BytePush p.left) (fewer p) (λ witnessTime. Signed price witnessTime (fewer p))

    abbrev pub Settles : Progress → Type 0
    Settles p = Then (answered w ends 8 Refusal.MissingPrice Refusal.Price8BytePush p.left) (fewer p) (λ price. Timed price (fewer p))

    pub first : ends_sound 0 (length w) ends ≡ true → (p : Progress) → p.left ≤ length ends → Settles p → Gives (oracle key time) w ends old new p v p'
    unfolding oracle
    first sound p few =
        by_pop sound 8 Refusal.MissingPrice Refusal.Price8BytePush (after_price key time) (λ price. Timed price (fewer p)) p few λ price.
        by_pop sound 8 Refusal.MissingTimestamp Refusal.Timstamp8BytePush (after_time key time price) (λ witnessTime. Signed price witnessTime (fewer (fewer p)))
        (fewer p) (omega arith) λ witnessTime.
        by_pop sound 64 Refusal.MissingOracleSignature Refusal.MalformedSig (after_signature key time price witnessTime)
        (λ signature. Gives (after_signature key time price witnessTime signature) w ends old new (fewer (fewer (fewer p))) v p')
        (fewer (fewer p)) (omega arith) (λ signature g. g)

-- copies, one behind the other
grown : (x d s : List ℕ) (b m : ℕ) → length x ≡ b → paste (x ++ drop b d) b s m ≡ x ++ take m s ++ drop (b + m) d
grown x d s b m e =
    let f : drop (b + m) (x ++ drop b d) ≡ drop (b + m) d =
    sym (drop-drop m b (x ++ drop b d)) ∙ ap (λ (l : List ℕ). drop m l) (drop_at x (drop b d) b e) ∙ drop-drop m b d in
    rw (take_at x (drop b d) b e, f)

pub four_copies : (d a b c e : List ℕ) (o : ℕ) → o ≤ length d → 32 ≤ length a → 8 ≤ length b → 8 ≤ length c
    → paste (paste (paste (paste d o a 32) (o + 32) b 8) (o + 40) c 8) (o + 48) e 64
    ≡ take o d ++ check_bytes (take 32 a) (take 8 b) (take 8 c) (take 64 e) ++ drop (o + 112) d
four_copies d a b c e o h k l m =
    let d₁ = take o d ++ take 32 a in
    let d₂ = d₁ ++ take 8 b in
    let d₃ = d₂ ++ take 8 c in
    let o₂ : o + 32 + 8 ≡ o + 40 = omega arith in
    let o₃ : o + 40 + 8 ≡ o + 48 = omega arith in
    let o₄ : o + 48 + 64 ≡ o + 112 = omega arith in
    let x : length d₁ ≡ o + 32 = length_paste_head d o a 32 h k in
    let y : length d₂ ≡ o + 40 = length-append d₁ (take 8 b) ∙ omega (arith, x, length-take-le 8 b l) in
    let z : length d₃ ≡ o + 48 = length-append d₂ (take 8 c) ∙ omega (arith, y, length-take-le 8 c m) in
    rw (grown d₁ d b (o + 32) 8 x, o₂, grown d₂ d c (o + 40) 8 y, o₃, grown d₃ d e (o + 48) 64 z, o₄) (simp append_assoc)

-- the same of parts that have just these lengths
pub four_whole : (d a b c e : List ℕ) (o : ℕ) → o ≤ length d → 32 ≤ length a → length b ≡ 8 → length c ≡ 8 → length e ≡ 64
    → paste (paste (paste (paste d o a 32) (o + 32) b 8) (o + 40) c 8) (o + 48) e 64
    ≡ take o d ++ check_bytes (take 32 a) b c e ++ drop (o + 112) d
four_whole d a b c e o h k l m n =
    let parts : check_bytes (take 32 a) (take 8 b) (take 8 c) (take 64 e) ≡ check_bytes (take 32 a) b c e =
    rw (take_all 8 b (omega (arith, l)), take_all 8 c (omega (arith, m)), take_all 64 e (omega (arith, n))) in
    four_copies d a b c e o h k (omega (arith, l)) (omega (arith, m)) ∙ ap (λ (check : List ℕ). take o d ++ check ++ drop (o + 112) d) parts

priced-outcome : (n : ℕ) (st : State) (b : Bool)
    → outcome (cond b (Ok (pos n)) (Err Refusal.PriceOverflow)) st ≡ cond b (ok (pos n) st) (err Refusal.PriceOverflow st)
priced-outcome n st true = refl
priced-outcome n st false = refl

-- after the three pops: the terminal, and price, time and signature of the witness
module _ (terminal price witnessTime signature w ends old : List ℕ) (p : Progress) (time : ℕ) (is : time ≡ bytes_value (drop 32 terminal)) where
  abbrev rest : State → Outcome State ℤ
  rest = after_signature (take 32 terminal) (bytes_value (drop 32 terminal)) price witnessTime signature

  pub judged_in_future : in_future time (bytes_value witnessTime) ≡ true → Gives rest w ends old old p (Err Refusal.TimestampInFuture) p
  judged_in_future h = record { gives = rw (← is, h); fewer = omega arith; more = omega arith; one = omega arith; kept = refl }

  -- the check stands behind those before it
  module _ (room : 112 * p.checks + 112 ≤ length old) (operands : length terminal ≡ 40) (lp : length price ≡ 8) (lt : length witnessTime ≡ 8)
      (ls : length signature ≡ 64) (intime : in_future time (bytes_value witnessTime) ≡ false) where
    abbrev checks : ℕ
    checks = p.checks

    abbrev check : List ℕ
    check = check_bytes (take 32 terminal) witnessTime price signature

    abbrev new : List ℕ
    new = take (112 * checks) old ++ check ++ drop (112 * checks + 112) old

    check-length : length check ≡ 112
    check-length = simp length-append (omega (arith, length-take-le 32 terminal (omega (arith, operands)), lp, lt, ls))

    front_length : length (take (112 * checks) old ++ check) ≡ 112 * (checks + 1)
    front_length = length-append (take (112 * checks) old) check ∙ omega (arith, length-take-le (112 * checks) old (omega arith), check-length)

    front : take (112 * (checks + 1)) new ≡ take (112 * checks) old ++ check
    front = take_at (take (112 * checks) old ++ check) (drop (112 * checks + 112) old) (112 * (checks + 1)) front_length

    behind : drop (112 * (checks + 1)) new ≡ drop (112 * (checks + 1)) old
    behind =
        let e : 112 * checks + 112 ≡ 112 * (checks + 1) = omega arith in
        drop_at (take (112 * checks) old ++ check) (drop (112 * checks + 112) old) (112 * (checks + 1)) front_length ∙ ap (λ (k : ℕ). drop k old) e

    pub judged-listed : (v : Result ℤ Refusal) → v ≡ priced (bytes_value price) → Gives rest w ends old new p v (record { left = p.left; checks = checks + 1 })
    judged-listed v e =
        record {
          gives = rw (← is, intime, e, front) (priced-outcome (bytes_value price) _ (ltb (bytes_value price) (2 ^ 63)));
          fewer = omega arith;
          more = omega arith;
          one = omega arith;
          kept = behind;
        }
