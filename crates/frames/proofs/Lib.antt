-- The laws of digits, of lines and of reading.
-- The proofs of the functions that read and write lines, what is said of printed lines, and what is said of the input
-- of `par`, rest on them.
pub mod DigitLaws
pub mod PairLaws
pub mod LineLaws
pub mod LinePlaces
pub mod ReadingLaws
pub mod AcceptedText
pub mod ReadBytes
pub mod WrittenLines
pub mod WrittenExercises
