-- What a block that is prepared for searches tells.
-- The search is stated with these.
pub mod Weights
pub mod Prepared
