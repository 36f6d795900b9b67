-- What the proofs of the calls on tables rest on, and what the calls give where no further map is lent.
-- An accepting verdict is turned into what the layers below ask for, and the value that a call gives into what the call
-- promises.
pub mod Conditions
pub mod OneTable
pub mod Promises
