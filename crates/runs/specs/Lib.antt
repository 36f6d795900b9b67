-- The definitions on recorded runs.
-- A replay: how it ends, and the state there.
pub mod Replay
