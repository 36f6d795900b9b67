-- The theorems of stepping back: what a predecessor is, which one is the next, and which rules have at most one.
-- The proofs of the code, and the layers above, rest on them.
pub mod Leading
pub mod Choosing
pub mod ChoiceCases
pub mod Keeping
pub mod Succession
pub mod Completing
pub mod NextState
pub mod Candidates
pub mod Enumeration
pub mod OneToOne
pub mod RelabelledForm
