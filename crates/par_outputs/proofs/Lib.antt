-- The theorems on the output of `par`.
-- What it is made of, what it means, and how long it is.
pub mod Meaning
pub mod Whole
pub mod OutputLengths
