-- Two answers that are the same hold the same value.
use Rattle.std.proofs.Common.{◌≡◌, Ok, Result}

pub same_ok : {A E : Type 0} {x y : A} → ◌≡◌ {A = Result A E} (Ok x) (Ok y) → x ≡ y
same_ok e = cc
