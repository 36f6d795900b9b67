-- What a public call gives, in the document's terms: an answer (`Answer`), the conditions that turn the call back
-- (`Condition`, `verdict`), and the answer with the final contents of the buffer that was lent (`Outcome`, `guarded`).
-- Every public contract names a value made of these.
use Rattle.std.specs.Prelude.{ℕ, Bool, cond, List, [], ◌∷◌}

-- the number that turns the call back, or what the call tells
pub data Answer (A : Type 0) : Type 0 where
  refused : ℕ → Answer A
  told : A → Answer A

infix 68 ◌unless◌
-- the call is turned back with the number unless the test holds
pub data Condition : Type 0 where
  ◌unless◌ : ℕ → Bool → Condition

-- "The lowest number wins": the conditions stand in the order of their numbers (the reader's in its own order), and
-- the first that fails gives its number
abbrev pub verdict : List Condition → Answer (Unit {0})
verdict [] = told tt
verdict (number unless holds ∷ conditions) = cond holds (verdict conditions) (refused number)

-- what is told where nothing turns the call back
abbrev pub answered : {A : Type 0} → Answer (Unit {0}) → A → Answer A
answered (refused number) a = refused number
answered (told u) a = told a

-- the answer, and the final contents of the lent buffer
pub record Outcome (A : Type 0) : Type 0 where
  pub answer : Answer A
  pub out : List ℕ

abbrev pub outcome : {A : Type 0} → Answer A → List ℕ → Outcome A
outcome answer out = record { answer = answer; out = out }

-- "A refusal returns only its number and writes nowhere": `out` are the contents before the call
abbrev pub guarded : {A : Type 0} → Answer (Unit {0}) → List ℕ → Outcome A → Outcome A
guarded (refused number) out accepted = outcome (refused number) out
guarded (told u) out accepted = accepted
