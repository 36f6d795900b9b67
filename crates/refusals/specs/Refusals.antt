-- The document's number for each refusal (`refusal_number`), and the answer that a result stands for (`answer_of`).
-- The contracts of all that refuses cite these.
use Rattle.std.specs.Prelude.{ℕ, Result, Ok, Err}
use Rattle.refusals.specs.Answers.{Answer, refused, told}
use Rattle.refusals.specs.declared.Refusal.{Refusal}
use Rattle.refusals.specs.declared.Refusal.TheVariants.{Character, Line, Head, Length, Map, Term, Unbound}
use Rattle.refusals.specs.declared.Refusal.TheVariants.{State, Rule, Limit, Buffer, TableShort, TableFails}
use Rattle.refusals.specs.declared.Refusal.TheVariants.{Maps, MapRange, Records}

-- the column 'no.' of 'Turned back, by place'
abbrev pub refusal_number : Refusal → ℕ
refusal_number Character = 1
refusal_number Line = 2
refusal_number Head = 3
refusal_number Length = 4
refusal_number Map = 5
refusal_number Term = 6
refusal_number Unbound = 7
refusal_number State = 8
refusal_number Rule = 9
refusal_number Limit = 10
refusal_number Buffer = 11
refusal_number TableShort = 12
refusal_number TableFails = 13
refusal_number Maps = 14
refusal_number MapRange = 15
refusal_number Records = 16

-- what a call tells, or the number that it is refused with
abbrev pub answer_of : {A : Type 0} → Result A Refusal → Answer A
answer_of (Ok told_value) = told told_value
answer_of (Err refusal) = refused (refusal_number refusal)
