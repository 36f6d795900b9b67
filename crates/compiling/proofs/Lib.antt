-- The laws of compiling.
-- Terms, a side, rules and goals, and weights, as they are placed.
pub mod TermsPlaced
pub mod SidePlaced
pub mod RulesPlaced
pub mod WeightsPlaced
