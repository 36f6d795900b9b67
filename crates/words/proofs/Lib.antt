-- The laws of words.
-- Digits and packing, ranks by words, the test of constants, and what compiled arrays mean.
pub mod WordDigits
pub mod WordRanks
pub mod WordMismatch
pub mod Meaning
pub mod KeptCode
