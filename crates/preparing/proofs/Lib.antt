-- The laws of a prepared block.
-- The search rests on these.
pub mod PackedRanks
pub mod WeightLaws
