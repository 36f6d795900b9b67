-- The values that the calls on blocks, rules and states give.
-- These are what the contracts name.
pub mod Applying
pub mod Checking
pub mod Goals
pub mod Relabelling
