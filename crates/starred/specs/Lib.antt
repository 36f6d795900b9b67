-- The starred exercises as statements.
-- One record has them all, a field for each.
pub mod Starred
