-- R-5: "Decoding must give the same condition from old and new key buffers": two lists of records with one token list are decoded alike, wherever their keys lie,
-- over each other or with other bytes between.
use Prim.Native.Nat.{ℕ}
use mathlib.Core.List.{List}
use mathlib.Core.Path.{◌≡◌}
use native.Mathlib.Omega.{arith}
use lib.ListN.{length-map}
use Rattle.semantics.specs.Decode.{decoded}
use Rattle.semantics.specs.Records.{tokens}
use Rattle.semantics.proofs.KeyBuffers.{Whole, same_tokens}
use Rattle.records.specs.declared.TokenRecord.{TokenRecord}
use Rattle.records.specs.Fields.{fields_of}

-- a record has its number and its place
fields_whole : (rs : List TokenRecord) (keys : List ℕ) → Whole (fields_of rs keys)
fields_whole rs keys = record { numbers = simp length-map (omega arith); places = simp length-map (omega arith) }

pub same_records : (rs ss : List TokenRecord) (keys others : List ℕ) → tokens (fields_of rs keys) ≡ tokens (fields_of ss others)
    → (old : List ℕ) → decoded (fields_of rs keys) old ≡ decoded (fields_of ss others) old
same_records rs ss keys others = same_tokens (fields_of rs keys) (fields_of ss others) (fields_whole rs keys) (fields_whole ss others)
