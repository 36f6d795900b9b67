-- The demands as statements.
-- One file has them all, a record for each.
pub mod Demands
