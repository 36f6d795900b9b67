-- The definitions that every layer uses, a file for each idea.
-- They know nothing of exercises: bounded tests, lists by index, elements replaced, sums, digits, parts of arrays,
-- sets of small numbers, the mark of tables.
pub mod Bounded
pub mod Lists
pub mod Placing
pub mod Sums
pub mod Digits
pub mod Parts
pub mod Sets
pub mod Marks
