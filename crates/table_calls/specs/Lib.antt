-- The values that the calls on tables give.
-- These are what the contracts name.
pub mod Estimating
pub mod WholeTables
