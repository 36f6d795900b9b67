-- The laws of least costs, of the lower-bound test, and of what a fill keeps.
-- The fill, the test of a table and the exactness of fixed tables rest on them.
pub mod Reaching
pub mod Passing
pub mod Exactness
pub mod Writing
pub mod OneRule
pub mod Sweeping
pub mod TestAt
pub mod Shortcuts
pub mod WithinSteps
pub mod LeastCostLaws
pub mod Certificate
