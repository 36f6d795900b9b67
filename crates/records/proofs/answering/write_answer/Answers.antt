-- `records::answering::write_answer` meets its contract.
-- Each case is written with its status and numbers, and with the goal where there is a plan.
use mathlib.Core.Path.{sym, subst}
use mathlib.Core.List.{List}
use Prim.Native.Nat.{ℕ}
use borrow.Author.Rules.{rules}
use Rattle.rounds.specs.Rounds.{visits}
use Rattle.queries.specs.Queries.{longest_plan}
use Rattle.search.specs.Parts.{FoundWithin, answer_of, ending_goal}
use Rattle.search.specs.declared.running.Ending.{Ending}
use Rattle.records.specs.Records.{answer_bytes, Written}
use Rattle.records.proofs.answering.write_answer.Goals as goal

pub put_found-requires : goal.put_found-requires
put_found-requires c =
    (subst (FoundWithin longest_plan) c.in-Found.is c.requires.0, c.requires.1)

-- what is written for an ending
abbrev Told : List ℕ → List ℕ → ℕ → List ℕ → Ending → Type 0
Told rules out n new x = Written (answer_bytes (ending_goal x) (answer_of rules x)) out n new

pub returns-in-Found : goal.returns-in-Found
unfolding visits
returns-in-Found c =
    subst (Told c.args.rules.now c.args.out.now _ _) (sym c.in-Found.is) c.put_found.ensures

pub returns-in-NoPlan : goal.returns-in-NoPlan
unfolding visits
returns-in-NoPlan c =
    subst (Told c.args.rules.now c.args.out.now _ _) (sym c.in-NoPlan.is) c.put_planless.ensures

pub returns-in-Spent : goal.returns-in-Spent
unfolding visits
returns-in-Spent c =
    subst (Told c.args.rules.now c.args.out.now _ _) (sym c.in-Spent.is) c.put_planless-in-Spent.ensures
