-- Pop by pop (`pops_found`, `pops_refused`).
use Rattle.std.proofs.Common.{◌≡◌, Err, arith, drop, take}
use Rattle.slices.specs.Bytes.{bytes_value}
use Rattle.semantics.specs.declared.Refusal.{Refusal}
use Rattle.semantics.specs.Evaluation.{after_price, after_signature, after_time, oracle}
use Rattle.witness.proofs.Oracles.{pops_found, pops_refused}
use Rattle.witness.proofs.ask.Goals as goal

pub returns-in_err-price : goal.returns-in_err-price
unfolding oracle
returns-in_err-price c =
    let a = c.args in
    let key = take 32 a.terminal.now in
    let time = bytes_value (drop 32 a.terminal.now) in
    let w = a.witness.now.bytes.now in
    let ends = a.witness.now.ends.now in
    let out = a.out.now in
    let p = c.take.ensures in
    let passed : c.from_residual.result ≡ Err c.in_err-price.field-0.0 = grind arith in
    rw passed (pops_refused w ends out a.progress.now 8 Refusal.MissingPrice Refusal.Price8BytePush (after_price key time) _ _ p.progress_after (c.in_err-price.ensures.takes out))

pub returns-in_err-time : goal.returns-in_err-time
unfolding oracle
returns-in_err-time c =
    let a = c.args in
    let key = take 32 a.terminal.now in
    let time = bytes_value (drop 32 a.terminal.now) in
    let w = a.witness.now.bytes.now in
    let ends = a.witness.now.ends.now in
    let out = a.out.now in
    let p = c.in_ok-price in
    let passed : c.from_residual-in_err-time.result ≡ Err c.in_err-time.field-0.0 = grind arith in
    rw passed
    (pops_found w ends out a.progress.now 8 Refusal.MissingPrice Refusal.Price8BytePush (after_price key time) _ _ _ _ _ p.ensures.progress_after (p.ensures.takes out)
    (pops_refused w ends out c.take.new.progress 8 Refusal.MissingTimestamp Refusal.Timstamp8BytePush (after_time key time p.price.now) _ _
    c.take-2.ensures.progress_after (c.in_err-time.ensures.takes out)))

pub returns-in_err-signature : goal.returns-in_err-signature
unfolding oracle
returns-in_err-signature c =
    let a = c.args in
    let key = take 32 a.terminal.now in
    let time = bytes_value (drop 32 a.terminal.now) in
    let w = a.witness.now.bytes.now in
    let ends = a.witness.now.ends.now in
    let out = a.out.now in
    let p = c.in_ok-price in
    let t = c.in_ok-time in
    let passed : c.from_residual-in_err-signature.result ≡ Err c.in_err-signature.field-0.0 = grind arith in
    rw passed
    (pops_found w ends out a.progress.now 8 Refusal.MissingPrice Refusal.Price8BytePush (after_price key time) _ _ _ _ _ p.ensures.progress_after (p.ensures.takes out)
    (pops_found w ends out c.take.new.progress 8 Refusal.MissingTimestamp Refusal.Timstamp8BytePush (after_time key time p.price.now) _ _ _ _ _ t.ensures.progress_after (t.ensures.takes out)
    (pops_refused w ends out c.take-2.new.progress 64 Refusal.MissingOracleSignature Refusal.MalformedSig (after_signature key time p.price.now t.time.now) _ _
    c.take-3.ensures.progress_after (c.in_err-signature.ensures.takes out))))

pub returns : goal.returns
unfolding oracle
returns c =
    let a = c.args in
    let key = take 32 a.terminal.now in
    let time = bytes_value (drop 32 a.terminal.now) in
    let w = a.witness.now.bytes.now in
    let ends = a.witness.now.ends.now in
    let out = a.out.now in
    let p = c.in_ok-price in
    let t = c.in_ok-time in
    let s = c.in_ok-signature in
    pops_found w ends out a.progress.now 8 Refusal.MissingPrice Refusal.Price8BytePush (after_price key time) _ _ _ _ _ p.ensures.progress_after (p.ensures.takes out)
    (pops_found w ends out c.take.new.progress 8 Refusal.MissingTimestamp Refusal.Timstamp8BytePush (after_time key time p.price.now) _ _ _ _ _ t.ensures.progress_after (t.ensures.takes out)
    (pops_found w ends out c.take-2.new.progress 64 Refusal.MissingOracleSignature Refusal.MalformedSig (after_signature key time p.price.now t.time.now) _ _ _ _ _
    s.ensures.progress_after (s.ensures.takes out) (c.judge.ensures w ends)))
