-- The starred exercises as theorems.
-- They stand in one list and are proved together.
pub mod Starred
