-- The laws of verdicts.
-- Every layer that refuses rests on them.
pub mod Verdicts
