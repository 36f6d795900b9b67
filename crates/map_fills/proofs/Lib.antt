-- The laws of filled tables of all maps.
-- The call that fills tables rests on these.
pub mod AllFilled
