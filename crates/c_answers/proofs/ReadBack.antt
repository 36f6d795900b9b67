-- Read back, the numbers of an answer tell that answer, since no refusal has the number 0 and no goal is FF: a law for
-- each struct (`done_told_lem`, `decision_told_lem`, ..). Applying a rule answers as all that answer yes or no do
-- (`applied-decision`). What the calls of the C interface promise rests on these.
use mathlib.Core.Path.{◌≡◌, refl, ap}
use mathlib.Core.Bool.{Bool, true, false, cond}
use Prim.Native.Nat.{ℕ, ◌<◌}
use native.Mathlib.Omega.{arith}
use borrow.Author.Tests.{ne_eqb}
use Rattle.std.proofs.Common.{Option, None, Some, Result, Ok, Err}
use Rattle.refusals.specs.Answers.{refused, told}
use Rattle.refusals.specs.Refusals.{refusal_number, answer_of}
use Rattle.refusals.specs.declared.Refusal.{Refusal}
use Rattle.refusals.specs.declared.Refusal.TheVariants as refusal
use Rattle.psvn.specs.Rules.{no_goal}
use Rattle.runs.specs.declared.replay.Replayed.{Replayed}
use Rattle.runs.specs.declared.replay.Replayed.TheVariants as replayed
use Rattle.search.specs.declared.running.Ending.{Ending}
use Rattle.search.specs.declared.running.Ending.TheVariants as ending
use Rattle.psvn_calls.specs.Applying.{application_of}
use Rattle.search_calls.specs.Searching.{search_of}
use Rattle.c_answers.specs.Numbers.{refusal_of, decision_of, applied_of, goal_numbers_of, length_of, entry_of}
use Rattle.c_answers.specs.Numbers.{replay_numbers_of, search_numbers_of}
use Rattle.c_answers.specs.Numbers.{told_by, done_told, decision_told, applied_told, goal_told, length_told, entry_told}
use Rattle.c_answers.specs.Numbers.{replay_told, search_told}

-- a refusal is read back as it is, whatever the other members say
refused-told : {A : Type 0} (a : A) (x : Refusal) → told_by (refusal_number x) a ≡ refused (refusal_number x)
refused-told a refusal.Character = refl
refused-told a refusal.Line = refl
refused-told a refusal.Head = refl
refused-told a refusal.Length = refl
refused-told a refusal.Map = refl
refused-told a refusal.Term = refl
refused-told a refusal.Unbound = refl
refused-told a refusal.State = refl
refused-told a refusal.Rule = refl
refused-told a refusal.Limit = refl
refused-told a refusal.Buffer = refl
refused-told a refusal.TableShort = refl
refused-told a refusal.TableFails = refl
refused-told a refusal.Maps = refl
refused-told a refusal.MapRange = refl
refused-told a refusal.Records = refl

-- one number
pub done_told_lem : (x : Result (Unit {0}) Refusal) → done_told (refusal_of (answer_of x)) ≡ answer_of x
done_told_lem (Ok u) = refl
done_told_lem (Err x) = refused-told _ x

-- yes or no; of applying a rule, 'done' or 'does not apply'
pub decision_told_lem : (x : Result Bool Refusal) → decision_told (decision_of (answer_of x)) ≡ answer_of x
decision_told_lem (Ok true) = refl
decision_told_lem (Ok false) = refl
decision_told_lem (Err x) = refused-told _ x

pub applied_told_lem : (x : Result Bool Refusal) → applied_told (applied_of (application_of x)) ≡ application_of x
applied_told_lem (Ok true) = refl
applied_told_lem (Ok false) = refl
applied_told_lem (Err x) = refused-told _ x

pub applied-decision : (x : Result Bool Refusal) → decision_of (answer_of x) ≡ applied_of (application_of x)
applied-decision (Ok true) = refl
applied-decision (Ok false) = refl
applied-decision (Err x) = refl

-- a goal, of which it is known that it is not FF
pub goal_told_lem :
    (x : Result (Option ℕ) Refusal) → ((g : ℕ) → answer_of x ≡ told (Some g) → g < no_goal)
    → goal_told (goal_numbers_of (answer_of x)) ≡ answer_of x
goal_told_lem (Ok (Some g)) low =
    ap (λ (t : Bool). told (cond t None (Some g))) (ne_eqb g no_goal (λ e. omega (arith, low g refl)))
goal_told_lem (Ok None) low = refl
goal_told_lem (Err x) low = refused-told _ x

-- lengths, and entries
pub length_told_lem : (x : Result ℕ Refusal) → length_told (length_of (answer_of x)) ≡ answer_of x
length_told_lem (Ok bytes) = refl
length_told_lem (Err x) = refused-told _ x

pub entry_told_lem : (x : Result ℕ Refusal) → entry_told (entry_of (answer_of x)) ≡ answer_of x
entry_told_lem (Ok entry) = refl
entry_told_lem (Err x) = refused-told _ x

-- where a replay ends, and the answer of a search
pub replay_told_lem : (x : Result Replayed Refusal) → replay_told (replay_numbers_of (answer_of x)) ≡ answer_of x
replay_told_lem (Ok (replayed.Done end)) = refl
replay_told_lem (Ok (replayed.Stuck end)) = refl
replay_told_lem (Err x) = refused-told _ x

pub search_told_lem : (x : Result Ending Refusal) → search_told (search_numbers_of (search_of x)) ≡ search_of x
search_told_lem (Ok (ending.Found plan)) = refl
search_told_lem (Ok (ending.NoPlan visits)) = refl
search_told_lem (Ok (ending.Spent visits)) = refl
search_told_lem (Err x) = refused-told _ x
