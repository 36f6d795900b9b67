-- The document's answers as C receives them, in numbers (`refusal_of`, `decision_of`, ..): a refusal gives its number,
-- FF for a goal and 0 in all other members; what is told has 0 for a refusal. `done_told`, `decision_told`, .. read the
-- answers back.
-- The contracts of the conversions, and of every call of the C interface, are stated with these.
use Rattle.std.specs.Prelude.{ℕ, zero, suc, Bool, true, false, cond, eqb, Option, None, Some}
use Rattle.refusals.specs.Answers.{Answer, refused, told}
use Rattle.psvn.specs.Rules.{no_goal, goal_byte}
use Rattle.runs.specs.declared.replay.RunEnd.{RunEnd}
use Rattle.runs.specs.declared.replay.Replayed.{Replayed}
use Rattle.runs.specs.declared.replay.Replayed.TheVariants.{Done, Stuck}
use Rattle.search.specs.Parts.{planless}
use Rattle.search.specs.declared.running.Plan.{Plan}
use Rattle.psvn_calls.specs.Applying as applying
use Rattle.search_calls.specs.Searching.{SearchAnswer}
use Rattle.c_answers.specs.declared.decisions.Decision.{Decision}
use Rattle.c_answers.specs.declared.goals.GoalNumbers.{GoalNumbers}
use Rattle.c_answers.specs.declared.lengths.Length.{Length}
use Rattle.c_answers.specs.declared.entries.Entry.{Entry}
use Rattle.c_answers.specs.declared.replays.ReplayNumbers.{ReplayNumbers}
use Rattle.c_answers.specs.declared.searches.SearchNumbers.{SearchNumbers}

-- the refusal's number, or 0 for 'accepted' and for 'filled'
abbrev pub refusal_of : Answer (Unit {0}) → ℕ
refusal_of (refused number) = number
refusal_of (told u) = 0

-- yes or no: whether a predecessor was found, reversible by form, the lower-bound test
abbrev pub decision_of : Answer Bool → Decision
decision_of (refused number) = record { refusal = number; yes = 0 }
decision_of (told true) = record { refusal = 0; yes = 1 }
decision_of (told false) = record { refusal = 0; yes = 0 }

-- 'done' is yes, and 'does not apply' is no
abbrev pub applied_of : Answer applying.Applied → Decision
applied_of (refused number) = record { refusal = number; yes = 0 }
applied_of (told applying.done) = record { refusal = 0; yes = 1 }
applied_of (told applying.does_not_apply) = record { refusal = 0; yes = 0 }

-- the goal that a state meets, FF for none
abbrev pub goal_numbers_of : Answer (Option ℕ) → GoalNumbers
goal_numbers_of (refused number) = record { refusal = number; goal = no_goal }
goal_numbers_of (told met) = record { refusal = 0; goal = goal_byte met }

-- the length of the block, or of the answer records, that were written
abbrev pub length_of : Answer ℕ → Length
length_of (refused number) = record { refusal = number; bytes = 0 }
length_of (told bytes) = record { refusal = 0; bytes = bytes }

-- the entry of the table; 'no path' is one
abbrev pub entry_of : Answer ℕ → Entry
entry_of (refused number) = record { refusal = number; entry = 0 }
entry_of (told entry) = record { refusal = 0; entry = entry }

-- 'done' or 'stuck', with where the replay ends
abbrev pub replay_numbers : ℕ → ℕ → RunEnd → ReplayNumbers
replay_numbers refusal stuck end = record { refusal = refusal; stuck = stuck; end = end }

abbrev pub replay_numbers_of : Answer Replayed → ReplayNumbers
replay_numbers_of (refused number) = replay_numbers number 0 (record { steps = 0; cost = 0; goal = no_goal })
replay_numbers_of (told (Done end)) = replay_numbers 0 0 end
replay_numbers_of (told (Stuck end)) = replay_numbers 0 1 end

-- status and plan of a search
abbrev pub search_numbers : ℕ → ℕ → Plan → SearchNumbers
search_numbers refusal status plan = record { refusal = refusal; status = status; plan = plan }

abbrev pub without_plan : ℕ → ℕ → ℕ → SearchNumbers
without_plan refusal status visits = search_numbers refusal status (planless visits)

abbrev pub search_numbers_of : Answer SearchAnswer → SearchNumbers
search_numbers_of (refused number) = without_plan number 0 0
search_numbers_of (told a) = search_numbers 0 a.status a.plan

-- read back: told where the refusal's number is 0
abbrev pub told_by : {A : Type 0} → ℕ → A → Answer A
told_by zero a = told a
told_by (suc k) a = refused (suc k)

-- 'accepted', 'filled'
abbrev pub done_told : ℕ → Answer (Unit {0})
done_told number = told_by number tt

-- yes or no
abbrev pub decision_told : Decision → Answer Bool
decision_told r = told_by r.refusal (eqb r.yes 1)

-- 'done' or 'does not apply'
abbrev pub applied_told : Decision → Answer applying.Applied
applied_told r = told_by r.refusal (cond (eqb r.yes 1) applying.done applying.does_not_apply)

-- the goal that a state meets; FF is none
abbrev pub goal_read : ℕ → Option ℕ
goal_read goal = cond (eqb goal no_goal) None (Some goal)

abbrev pub goal_told : GoalNumbers → Answer (Option ℕ)
goal_told r = told_by r.refusal (goal_read r.goal)

-- the length of the block, or of the answer records, that were written
abbrev pub length_told : Length → Answer ℕ
length_told r = told_by r.refusal r.bytes

-- the entry of the table
abbrev pub entry_told : Entry → Answer ℕ
entry_told r = told_by r.refusal r.entry

-- 'done' or 'stuck', with where the replay ends
abbrev pub replay_told : ReplayNumbers → Answer Replayed
replay_told r = told_by r.refusal (cond (eqb r.stuck 1) (Stuck r.end) (Done r.end))

-- status and plan of a search
abbrev pub search_told : SearchNumbers → Answer SearchAnswer
search_told r = told_by r.refusal (record { status = r.status; plan = r.plan })
