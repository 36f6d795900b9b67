-- The laws of records: how an answer's bytes are laid out, that they are bytes, and what they mean.
-- The proofs of the functions that answer a query, and what `par` prints, rest on them.
pub mod AnswerBytes
pub mod RecordLaws
pub mod AnswerMeaning
