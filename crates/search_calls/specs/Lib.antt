-- The values that the search call gives.
-- These are what the contracts name.
pub mod Searching
