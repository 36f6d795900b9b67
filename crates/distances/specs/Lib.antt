-- Least costs over a finite graph, the lower-bound test, and what a fill keeps.
-- They know nothing of exercises or of the code that fills a table.
pub mod Graphs
pub mod LowerBounds
pub mod LeastCosts
pub mod Filling
pub mod Certificates
