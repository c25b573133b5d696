-- What the contracts cite beside the definitions of `semantics` and `productions`.
pub mod Pieces
