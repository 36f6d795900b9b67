-- The theorems on recorded runs.
-- What a replay tells.
pub mod ReplayLaws
