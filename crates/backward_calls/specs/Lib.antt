-- The values that the calls of stepping back and of reversible rules give.
-- These are what the contracts name.
pub mod Predecessors
pub mod Reversing
