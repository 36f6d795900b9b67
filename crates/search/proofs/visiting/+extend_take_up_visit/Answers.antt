-- Each call has a lesser measure; what each branch leaves is by the lemmas of Visits and Rests.
use Rattle.std.proofs.Common.{◌≡◌, Bool, ℕ, ◌^◌, ◌<◌, List, refl, sym, ap, ◌∙◌, arith}
use Rattle.rule_sets.specs.Agreeing.{agreeing}
use Rattle.words.specs.Code.{position_count, goal_count}
use Rattle.words.specs.Sides.{meets_word}
use Rattle.tallies.specs.declared.Tally.{Tally}
use Rattle.tallies.specs.Tallies.{with_visit}
use Rattle.search.specs.declared.run.Run.{Run}
use Rattle.search.specs.Run.{state_at, Carried}
use Rattle.search.specs.Parts.{Here, Rest}
use Rattle.search.proofs.RunStateLaws.{kept-outside}
use Rattle.search.proofs.Scans.{rules-low, here-kept}
use Rattle.search.proofs.Rests.{agreeing-small, rest-here, rest-own, come-first, come-over}
use Rattle.search.proofs.Visits.{visit-stop, visit-goal, visit-leaf, visit-more}
use Rattle.search.proofs.Visits.{extend-none, extend-all, here-due, extend-due}
use Rattle.search.proofs.Visits.{here-next, here-again, rest-again, take_on, take_ended}
use Rattle.search.proofs.visiting.+extend_take_up_visit.Goals as goal

-- ---- extensions

-- no rule is left
pub extend-returns-then-rest-eq0 : goal.extend-returns-then-rest-eq0
extend-returns-then-rest-eq0 t c =
    let k = c.requires.here.0 in
    extend-none c.args.table.now k
    (come-over (come-first _ _ _ _ _ _ c.requires.rest) c.if-rest-eq0.true)

-- none is due
pub extend-returns-then-left-eq0 : goal.extend-returns-then-left-eq0
extend-returns-then-left-eq0 t c =
    extend-none c.args.table.now c.requires.here.0 (c.next_due-left.ensures.none_left c.if-left-eq0.true)

pub extend-take_up-requires : goal.extend-take_up-requires
extend-take_up-requires t c =
    let n = c.next_due-left in
    let some : 0 < n.result = omega (arith, c.if-left-eq0.false) in
    let f = n.ensures.some_left some in
    let kept = f.0.kept in (
      omega (arith, n.ensures.fewer, kept.steps_kept),
      (
        (here-due c.args.table.now c.requires.here.0 f.0, rw kept.steps_kept c.requires.here.1, some),
        (f.0.due, rw (kept.states c.args.depth (omega arith)) f.1),
      ),
    )

pub extend-returns : goal.extend-returns
extend-returns t c =
    let some : 0 < c.next_due-left.result = omega (arith, c.if-left-eq0.false) in
    extend-due c.args.table.now c.requires.here.0 (c.next_due-left.ensures.some_left some).0 c.take_up.ensures

-- ---- an extension that is taken up

pub take_up-visit-requires : goal.take_up-visit-requires
take_up-visit-requires t c =
    let here = c.requires.here in (
      omega (arith, here.1),
      here-next c.args.table.now here.0 c.requires.due.0 here.1,
    )

pub take_up-extend-requires : goal.take_up-extend-requires
take_up-extend-requires t c =
    let table = c.args.table.now in
    let here = c.requires.here in
    let due = c.requires.due in
    let visited = c.visit.ensures in
    let fewer = c.without_lowest.ensures in
    let rest =
    rest-again table here.0 due.0 here.1 visited c.args.left refl here.2 (omega (arith, c.ranges.left)) due.1
    fewer.0 fewer.1 in
    (omega (arith, fewer.1, visited.kept.steps_kept), (here-again table here.0 due.0 here.1 visited, rest))

pub take_up-returns-in-On : goal.take_up-returns-in-On
take_up-returns-in-On t c =
    let here = c.requires.here in
    let due = c.requires.due in
    let fewer = c.without_lowest.ensures in
    take_on c.args.table.now here.0 due.0 here.1 c.visit.ensures c.args.left refl here.2
    (omega (arith, c.ranges.left)) due.1 c.in-On.is fewer.0 fewer.1 c.extend.ensures

pub take_up-returns-in_default : goal.take_up-returns-in_default
take_up-returns-in_default t c =
    let here = c.requires.here in
    take_ended c.args.table.now here.0 c.requires.due.0 here.1 c.visit.ensures c.in_default.not-On

-- ---- a visit

-- the visit is counted: the list stands as before
counted :
    {run : Run} {more : Tally} → more ≡ with_visit run.tally
    → Carried (with_visit run.tally) run (record run { tally = more })
counted {run} one = record { told = ap (λ (x : Tally). record run { tally = x }) one }

here :
    {code changes : List ℕ} {run : Run} {depth : ℕ} {more : Tally} → Here code changes run depth
    → more ≡ with_visit run.tally → Here code changes (record run { tally = more }) depth
here {depth = depth} k one = here-kept k (kept-outside depth (counted one))

-- what the goal test shows
tested :
    (code : List ℕ) (w goals : ℕ) (met b : Bool) → goals ≡ goal_count code → met ≡ meets_word code goals w
    → met ≡ b → meets_word code (goal_count code) w ≡ b
tested code w goals met b count is e = ap (λ (g : ℕ). meets_word code g w) (sym count) ∙ sym is ∙ e

-- all rules whose constants the state has
all :
    {code changes : List ℕ} {run : Run} {depth n s : ℕ} → Here code changes run depth → n ≡ position_count code
    → s ≡ agreeing code (state_at run depth) n → Rest code (state_at run depth) 0 s
all k count is = rw is (rest-here k _ count)

small : (code : List ℕ) (w n : ℕ) {s : ℕ} → s ≡ agreeing code w n → s < 2 ^ 64
small code w n is = rw is (agreeing-small code w n)

pub visit-returns-then-run : goal.visit-returns-then-run
visit-returns-then-run t c = visit-stop c.args.table.now c.requires c.if-run.true

pub visit-returns-then-meets_word : goal.visit-returns-then-meets_word
visit-returns-then-meets_word t c =
    visit-goal c.args.table.now c.requires c.if-run.false (counted c.count_visit.ensures)
    (tested _ _ _ _ _ c.goal_count.ensures c.meets_word.ensures c.if-meets_word.true)

pub visit-returns-then-run-depth : goal.visit-returns-then-run-depth
visit-returns-then-run-depth t c =
    visit-leaf c.args.table.now c.requires c.if-run.false (counted c.count_visit.ensures)
    (tested _ _ _ _ _ c.goal_count.ensures c.meets_word.ensures c.if-meets_word.false) c.if-run-depth.true

pub visit-extend-requires : goal.visit-extend-requires
visit-extend-requires t c =
    let k = c.requires in
    let low : c.args.depth < c.args.run.now.steps = c.if-run-depth.false in
    let set = c.agreeing_with-all.ensures in (
      omega (arith, low, small _ _ _ set),
      (
        (here k c.count_visit.ensures, low),
        rest-own (small _ _ _ set) (rules-low k) (all k c.position_count.ensures set),
      ),
    )

pub visit-returns : goal.visit-returns
visit-returns t c =
    let k = c.requires in
    let table = c.args.table.now in
    let set = c.agreeing_with-all.ensures in
    visit-more table k c.if-run.false (counted c.count_visit.ensures)
    (tested _ _ _ _ _ c.goal_count.ensures c.meets_word.ensures c.if-meets_word.false) c.if-run-depth.false
    (extend-all table (here k c.count_visit.ensures) (small _ _ _ set) (all k c.position_count.ensures set)
    c.extend.ensures)
