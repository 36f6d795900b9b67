-- The laws of opening an exercise.
-- The proofs of its functions, and the theorems on the whole output of `par`, rest on them.
pub mod OpeningLaws
pub mod OpenedWell
