-- What the proofs of the call on many queries rest on, a file for each idea: what decides its conditions, answer
-- records one behind the other, what single calls give, and the promise.
pub mod Conditions
pub mod AnswerRecords
pub mod SingleCalls
pub mod Promises
