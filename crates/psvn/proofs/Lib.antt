-- The theorems on the language. Matching and applying in words, what a side makes, relabelling, the homomorphism,
-- states that stay states, ranks, runs of rules, the goal met, exercises that differ in their maps alone.
pub mod MatchingLaws
pub mod Making
pub mod Successors
pub mod Relabelled
pub mod Homomorphism
pub mod Stepping
pub mod RelabelTwice
pub mod RelabelledValid
pub mod RankLaws
pub mod RunLaws
pub mod GoalLaws
pub mod AlikeLaws
