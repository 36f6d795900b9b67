-- The theorems on the fill.
-- What the entries of a filled table are, why the fast pass may lower an entry, and when it leaves the filled table.
pub mod LeastEntries
pub mod FastPass
pub mod Predecessors
pub mod NextWords
