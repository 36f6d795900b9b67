-- `search::finding::find_plan` meets its contract.
-- The rounds on the words of the prepared block are the search on its states, by whatever estimate the arrays rate them
-- by; the rules of a plan found are written to the buffer.
use mathlib.Core.Path.{◌≡◌, refl, ap, subst, ◌∙◌}
use mathlib.Core.Bool.{true}
use mathlib.Core.List.{List}
use Prim.Native.Nat.{ℕ, ◌≤◌}
use native.Mathlib.Omega.{arith}
use Rattle.blocks.specs.States.{state_ok}
use Rattle.preparing.specs.Prepared.{Prepared}
use Rattle.rounds.specs.Systems.{Estimate, plus}
use Rattle.words.specs.Changes.{map_count}
use Rattle.figures.specs.Figures.{no_figure, entry_estimate, figure_of, entry_figure, largest_at, StandsFor}
use Rattle.figures.proofs.FigureLaws.{entry-figure, first-exact}
use Rattle.queries.specs.Queries.{longest_plan}
use Rattle.queries.specs.declared.Limits.{Limits}
use Rattle.search.specs.Exercises.{search_from, plan_goal}
use Rattle.search.specs.Promises as promises
use Rattle.search.specs.Run.{state_at, rank_at}
use Rattle.search.specs.OnWords.{Rates}
use Rattle.search.specs.Parts.{Started, whole_run, answer_in, FoundWithin, ending_goal, answer_goal}
use Rattle.search.specs.declared.run.Run.{Run}
use Rattle.search.specs.declared.running.Ending.{Ending}
use Rattle.search.proofs.Demand.{kept, plan-reaching}
use Rattle.search.proofs.Instance.{good_start, goal-on-words}
use Rattle.search.proofs.Runs.{begun-start, run-search, answers-found, answers-none}
use Rattle.search.proofs.StateWords.{word-ranks-low}
use Rattle.search.proofs.finding.find_plan.Goals as goal

-- the rounds from a start, by the figure that stands for its own
record Searched
    (b code changes entries s : List ℕ) (l : Limits) (run : Run) (first : ℕ) (run' : Run) (e : Ending) : Type 0 where
  ready : Prepared b code changes
  ok : state_ok b s ≡ true
  few : l.steps ≤ longest_plan
  started : Started b s l changes run
  figured : StandsFor 0 no_figure first (entry_figure 0 (largest_at entries (rank_at run 0) (map_count changes)))
  ended :
      FoundWithin run.steps e
      × (answer_in run' e ≡ whole_run code changes entries run.steps l.cost run.allowance first (state_at run 0))
      × (ending_goal e ≡ answer_goal code (state_at run 0) (answer_in run' e))

module _
    {b code changes entries s : List ℕ} {l : Limits} {run : Run} {first : ℕ} {run' : Run} {e : Ending}
    (k : Searched b code changes entries s l run first run' e) where
  within : FoundWithin l.steps e
  within = rw k.started.limited at k.ended.0

  -- their answer is that of the search, and keeps its promises
  module _ (h : List ℕ → Estimate) (rates : Rates b changes entries h) where
    told : answer_in run' e ≡ search_from b h s l
    told =
        let begun = begun-start k.ready s l k.ok k.few run k.started in
        (rw (k.started.limited, k.started.allowed) at k.ended.1)
        ∙ run-search k.ready rates s l k.ok _ first k.started.state
        (ap figure_of (first-exact 0 first 0 _ (omega arith) k.figured) ∙ entry-figure 0 _ (omega arith)
        ∙ ap (λ (r : ℕ). plus 0 (entry_estimate (largest_at entries r (map_count changes)))) begun.ranked)

    keeps : promises.SearchKept b h s l (search_from b h s l)
    keeps = kept k.ready.compiled.valid rates.passing s l k.ok

    -- the goal told is that of the answer's plan
    goal_told : ending_goal e ≡ plan_goal b s (search_from b h s l)
    goal_told =
        k.ended.2 ∙ ap (answer_goal code (state_at run 0)) told
        ∙ goal-on-words k.ready s k.ok _ k.started.state (search_from b h s l)
        (λ u c p q. (plan-reaching keeps u c p q).numbers)

pub begin-run-requires : goal.begin-run-requires
begin-run-requires c = let p = c.requires in (p.0.compiled.valid, p.1, p.2)

pub figure-first-requires : goal.figure-first-requires
figure-first-requires c =
    let p = c.requires in
    let y = p.0 in
    (y.some_map, rw c.begin-run.ensures.ranked (word-ranks-low y _ (good_start y _ p.1 _ refl)), omega arith)

pub run_rounds-ending-requires : goal.run_rounds-ending-requires
run_rounds-ending-requires c =
    let p = c.requires in
    (begun-start p.0 _ _ p.1 p.2 _ c.begin-run.ensures, c.begin-run.ensures.unused)

pub write_plan-requires : goal.write_plan-requires
write_plan-requires c =
    let p = c.requires in
    let within = rw c.begin-run.ensures.limited at c.run_rounds-ending.ensures.0 in
    let l = subst (FoundWithin c.args.limits.steps) c.in-Found.is within in
    (omega (arith, l, p.2), omega (arith, l, p.3))

pub returns-in-Found : goal.returns-in-Found
returns-in-Found c =
    let a = c.args in
    let k :
    Searched a.block.now a.code.now a.changes.now a.entries.now a.start.now a.limits c.begin-run.result
    c.figure-first.result c.run_rounds-ending.new.run c.run_rounds-ending.result =
    record {
      ready = c.requires.0;
      ok = c.requires.1;
      few = c.requires.2;
      started = c.begin-run.ensures;
      figured = c.figure-first.ensures;
      ended = c.run_rounds-ending.ensures;
    } in
    record {
      found_within = subst (FoundWithin c.args.limits.steps) c.in-Found.is (within k);
      by_index = λ h rates.
          answers-found (keeps k h rates) c.run_rounds-ending.new.run _ _ (told k h rates) (goal_told k h rates) _
          c.in-Found.is _ c.write_plan.ensures;
    }

pub returns-in_default : goal.returns-in_default
returns-in_default c =
    let a = c.args in
    let k :
    Searched a.block.now a.code.now a.changes.now a.entries.now a.start.now a.limits c.begin-run.result
    c.figure-first.result c.run_rounds-ending.new.run c.run_rounds-ending.result =
    record {
      ready = c.requires.0;
      ok = c.requires.1;
      few = c.requires.2;
      started = c.begin-run.ensures;
      figured = c.figure-first.ensures;
      ended = c.run_rounds-ending.ensures;
    } in
    record {
      found_within = within k;
      by_index = λ h rates.
          answers-none (keeps k h rates) c.run_rounds-ending.new.run _ _ (told k h rates) (goal_told k h rates) (λ q e.
          c.in_default.not-Found q e);
    }
