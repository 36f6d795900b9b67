-- The theorems on tables.
-- Over ranks and over words, and what passing tables promise.
pub mod OverRanks
pub mod Promises
pub mod WordEdges
pub mod RuleCosts
pub mod RelabelledRanks
pub mod SideTests
