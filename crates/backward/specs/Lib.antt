-- The definitions of stepping back, a file for each idea.
-- What a caller gets (`Predecessors`, `Reversible`), and how the
-- next predecessor is built position by position (`Choices`).
pub mod Reversible
pub mod Predecessors
pub mod Choices
