-- What the contracts cite beside the definitions of `semantics`, in reading order.
pub mod Before
pub mod Ending
pub mod Noted
