-- What the proofs of the search call rest on.
-- An accepting verdict is turned into what the layers below ask for, and what the search layer answers into what the
-- call tells.
pub mod Conditions
pub mod SearchAnswers
pub mod OneTable
