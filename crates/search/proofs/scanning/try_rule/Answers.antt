-- `search::scanning::try_rule` meets its contract.
-- What the rule offers is known by its figure, and where that is within the threshold by its state.
use mathlib.Core.Path.{◌≡◌, refl, sym, ap, ◌∙◌}
use mathlib.Core.Bool.{Bool, true, false}
use native.Mathlib.Omega.{arith}
use Rattle.words.specs.Sides.{step_word}
use Rattle.search.specs.declared.run.Run.{Run}
use Rattle.search.specs.Run.{state_at, cost_at}
use Rattle.search.specs.OnWords.{on_path}
use Rattle.search.specs.Parts.{Offered, Judged}
use Rattle.search.proofs.RunStateLaws.{carried_same}
use Rattle.search.proofs.Scans.{rules-low, parts-some, ranks-led}
use Rattle.search.proofs.Scans.{offered-applied, pass-idle, pass-seen, pass-overshoot, pass_on}
use Rattle.search.proofs.Scans.{found-due, put_same}
use Rattle.search.proofs.scanning.try_rule.Goals as goal
use Rattle.search.proofs.scanning.try_rule.Goals.{After-next_ranks-ranks, After-judge, Else-not-judge, After-on_path}

-- the rule applies, and leads to these ranks
offered :
    (c : After-next_ranks-ranks)
    → (let a = c.args in
    Offered a.code.now a.changes.now a.run.now a.depth a.rule c.next_ranks-ranks.result)
offered c =
    record {
      low = c.requires.rule_bound.0;
      can = sym c.applies_in.ensures ∙ c.if-not-applies_in.false;
      led = c.next_ranks-ranks.ensures;
    }

-- what the running state shows once the figure is judged
judged :
    (c : After-judge) (b : Bool) → c.judge.result ≡ b
    → (let a = c.args in
    Judged a.code.now a.changes.now a.table.now a.run.now a.depth a.rule c.next_ranks-ranks.result c.judge.new.run b)
judged c b e = rw e at c.judge.ensures

-- within the threshold nothing has changed
same : (c : Else-not-judge) → c.judge.new.run ≡ c.args.run.now
same c = (judged (goal.at.Else-not-judge c).After-judge true c.if-not-judge.false).1

-- the path is asked for the state that the rule makes
tested :
    (c : After-on_path)
    → (let a = c.args in
    on_path a.run.now a.depth (step_word a.code.now a.rule (state_at a.run.now a.depth)) ≡ c.on_path.result)
tested c =
    let a = c.args in
    let kept = same (goal.at.After-on_path c).Else-not-judge in
    ap (on_path a.run.now a.depth) (sym c.step_word-child.ensures)
    ∙ ap (λ (run : Run). on_path run a.depth c.step_word-child.result) (sym kept)
    ∙ sym c.on_path.ensures

pub applies_in-requires : goal.applies_in-requires
applies_in-requires c =
    let k = c.requires.here.0 in (
      omega (arith, rules-low k, c.requires.rule_bound.0),
      c.requires.rule_bound.1,
      k.given.ready.rule_sets.plain,
    )

pub returns-then-not-applies_in : goal.returns-then-not-applies_in
returns-then-not-applies_in c =
    let k = c.requires.here.0 in
    pass_on
    (pass-idle _ _ _ _ _ _ c.requires.rule_bound.0 (sym c.applies_in.ensures ∙ c.if-not-applies_in.true) _ _ refl)
    (carried_same refl)

pub next_ranks-ranks-requires : goal.next_ranks-ranks-requires
next_ranks-ranks-requires c =
    let k = c.requires.here.0 in
    let parts = parts-some k c.args.rule c.requires.rule_bound.0 in
    (omega (arith, rules-low k, c.requires.rule_bound.0), parts.0, parts.1)

pub judge-requires : goal.judge-requires
judge-requires c = (c.requires.here.0, offered (goal.at.judge-requires c).After-next_ranks-ranks)

pub returns-then-not-judge : goal.returns-then-not-judge
returns-then-not-judge c =
    let k = c.requires.here.0 in
    let way = goal.at.returns-then-not-judge c in
    let above = judged way.After-judge false c.if-not-judge.true in
    pass_on
    (pass-overshoot _ _ _ _ _ (offered-applied _ _ _ _ _ k (offered way.After-next_ranks-ranks)) above.0 _ _ refl)
    above.1

pub returns-then-on_path : goal.returns-then-on_path
returns-then-on_path c =
    let k = c.requires.here.0 in
    let way = goal.at.returns-then-on_path c in
    rw (same way.Else-not-judge)
    (pass_on
    (pass-seen _ _ _ _ _ (offered-applied _ _ _ _ _ k (offered way.After-next_ranks-ranks))
    (tested way.After-on_path ∙ c.if-on_path.true) _ _ refl)
    (carried_same refl))

pub overflow_add-cost : goal.overflow_add-cost
overflow_add-cost c =
    let k = c.requires.here.0 in
    let kept = ap (λ (run : Run). cost_at run c.args.depth) (same (goal.at.overflow_add-cost c).Else-not-judge) in
    record { fits = omega (arith, kept, k.cost_low, k.limited.threshold_low, c.cost_word.ensures.1) }

pub put-requires : goal.put-requires
put-requires c =
    let k = c.requires.here.0 in (
      omega (arith, c.requires.here.1, k.limited.steps_few),
      omega (arith, rules-low k, c.requires.rule_bound.0),
    )

pub returns : goal.returns
returns c =
    let k = c.requires.here.0 in
    let way = goal.at.returns c in
    let o = offered way.After-next_ranks-ranks in
    found-due _ _ _ _ _ (offered-applied _ _ _ _ _ k o) (judged way.After-judge true c.if-not-judge.false).0
    k.limited.threshold_low (tested way.After-on_path ∙ c.if-on_path.false)
    c.next_ranks-ranks.result (ranks-led k _ _ o.low o.can o.led) _
    (put_same c.step_word-child.ensures c.cost_word.ensures.0 (same way.Else-not-judge) c.put.ensures)
