-- The laws of the search by rounds, over any transition system and any estimate.
-- The search call rests on them.
pub mod OpenListLaws
pub mod EstimateLaws
pub mod ListSets
pub mod OneRound
pub mod ReachingLists
pub mod BestPlans
pub mod Allowed
pub mod RoundCounts
pub mod Equations
pub mod Demand
pub mod Figures
pub mod LogCounts
pub mod LogLaws
pub mod Thresholds
pub mod Images
