-- What the parts of compiling changes of ranks leave: rows, rows folded, parts, and the changes of rules.
-- The contracts of this crate are stated with these.
pub mod Rows
pub mod Folds
pub mod Parts
pub mod Changes
