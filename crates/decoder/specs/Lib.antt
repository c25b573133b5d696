-- What the contracts cite beside the definitions of `semantics`.
pub mod Sound
