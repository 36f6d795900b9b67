-- The laws of reading an answer's numbers back.
-- The C interface rests on them.
pub mod ReadBack
