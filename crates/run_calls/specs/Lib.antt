-- The values that the call that replays a run gives.
-- These are what the contracts name.
pub mod Replaying
