-- The definitions of the language, a file for each idea.
-- Matching and applying, matching in two parts, and what they mean in words; runs of rules, relabelling, and the ranks
-- of states.
pub mod Rules
pub mod TwoParts
pub mod Meaning
pub mod Runs
pub mod Relabelling
pub mod Ranks
