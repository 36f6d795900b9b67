-- The running state once a part of it is written: what is kept of the list at a depth, once more and further on
-- (`kept_same`, `kept_then`, `kept-before`), also where what is none of it is written (`kept_set`) or another tally
-- is carried (`kept-outside`); a tally that is carried (`carried-tally`), already (`carried_same`), as it is read
-- (`carried-read`), and once more (`carried_then`); and a list with one rule more (`put_one`).
-- The functions on the running state, and the visits and extensions, rest on these.
use mathlib.Core.Path.{◌≡◌, refl, ap, ◌∙◌}
use Prim.Native.Nat.{ℕ, suc, ◌≤◌, ◌<◌}
use mathlib.Core.List.{List}
use lib.ListN.{length, get_or, set}
use lib.Seq.{get_or-set_same, get_or-set_other}
use native.Mathlib.Omega.{arith}
use Rattle.tallies.specs.declared.Tally.{Tally}
use Rattle.search.specs.declared.run.Run.{Run}
use Rattle.search.specs.Run.{state_at, rank_at, cost_at, rule_at, ListKept, Carried, Put}

-- ---- what is kept

pub kept_same : (depth : ℕ) (run : Run) → ListKept depth run run
kept_same depth run =
    record {
      states = λ j l. refl;
      ranks = λ j l. refl;
      costs = λ j l. refl;
      rules = λ j l. refl;
      threshold_kept = refl;
      allowance_kept = refl;
      steps_kept = refl;
    }

pub kept_then :
    {depth : ℕ} {run run' run'' : Run} → ListKept depth run run' → ListKept depth run' run''
    → ListKept depth run run''
kept_then a b =
    record {
      states = λ j l. b.states j l ∙ a.states j l;
      ranks = λ j l. b.ranks j l ∙ a.ranks j l;
      costs = λ j l. b.costs j l ∙ a.costs j l;
      rules = λ j l. b.rules j l ∙ a.rules j l;
      threshold_kept = b.threshold_kept ∙ a.threshold_kept;
      allowance_kept = b.allowance_kept ∙ a.allowance_kept;
      steps_kept = b.steps_kept ∙ a.steps_kept;
    }

pub kept-before : {depth : ℕ} {run run' : Run} → ListKept (suc depth) run run' → ListKept depth run run'
kept-before a =
    record {
      states = λ j l. a.states j (omega arith);
      ranks = λ j l. a.ranks j (omega arith);
      costs = λ j l. a.costs j (omega arith);
      rules = λ j l. a.rules j (omega arith);
      threshold_kept = a.threshold_kept;
      allowance_kept = a.allowance_kept;
      steps_kept = a.steps_kept;
    }

-- what is none of the list's, nor a limit, may be written: a state, a rank or a cost behind its last one, a rule behind
-- its rules, and a plan's steps
module _ (depth i x : ℕ) (run : Run) where
  pub kept_set :
      (depth < i
      → ListKept depth run (record run { states = set run.states i x })
      × ListKept depth run (record run { ranks = set run.ranks i x })
      × ListKept depth run (record run { costs = set run.costs i x }))
      × (depth ≤ i → ListKept depth run (record run { rules = set run.rules i x }))
      × ListKept depth run (record run { plan_steps = x })
  kept_set =
      let apart : (l : List ℕ) (j : ℕ) → (j ≡ i → ⊥) → get_or (set l i x) j 0 ≡ get_or l j 0 =
      λ l j other. get_or-set_other l i j x 0 other in (
        λ behind. (
          record {
            states = λ j low. apart run.states j (omega arith);
            ranks = λ j low. refl;
            costs = λ j low. refl;
            rules = λ j low. refl;
            threshold_kept = refl;
            allowance_kept = refl;
            steps_kept = refl;
          },
          record {
            states = λ j low. refl;
            ranks = λ j low. apart run.ranks j (omega arith);
            costs = λ j low. refl;
            rules = λ j low. refl;
            threshold_kept = refl;
            allowance_kept = refl;
            steps_kept = refl;
          },
          record {
            states = λ j low. refl;
            ranks = λ j low. refl;
            costs = λ j low. apart run.costs j (omega arith);
            rules = λ j low. refl;
            threshold_kept = refl;
            allowance_kept = refl;
            steps_kept = refl;
          },
        ),
        λ behind. record {
          states = λ j low. refl;
          ranks = λ j low. refl;
          costs = λ j low. refl;
          rules = λ j low. apart run.rules j (omega arith);
          threshold_kept = refl;
          allowance_kept = refl;
          steps_kept = refl;
        },
        record {
          states = λ j low. refl;
          ranks = λ j low. refl;
          costs = λ j low. refl;
          rules = λ j low. refl;
          threshold_kept = refl;
          allowance_kept = refl;
          steps_kept = refl;
        },
      )

-- what changes the tally alone keeps every list
pub kept-outside : (depth : ℕ) {run run' : Run} {tally : Tally} → Carried tally run run' → ListKept depth run run'
kept-outside depth c =
    let e = c.told in
    record {
      states = λ j l. ap (λ (x : Run). state_at x j) e;
      ranks = λ j l. ap (λ (x : Run). rank_at x j) e;
      costs = λ j l. ap (λ (x : Run). cost_at x j) e;
      rules = λ j l. ap (λ (x : Run). rule_at x j) e;
      threshold_kept = ap (λ (x : Run). x.threshold) e;
      allowance_kept = ap (λ (x : Run). x.allowance) e;
      steps_kept = ap (λ (x : Run). x.steps) e;
    }

-- another tally
pub carried-tally : (run : Run) (tally : Tally) → Carried tally run (record run { tally = tally })
carried-tally run tally = record { told = refl }

-- the tally that is carried already
pub carried_same : {run : Run} {tally : Tally} → run.tally ≡ tally → Carried tally run run
carried_same {run} e = record { told = ap (λ (x : Tally). record run { tally = x }) e }

-- what is carried, by the tally that is read
pub carried-read : {run run' : Run} {tally : Tally} → Carried tally run run' → run'.tally ≡ tally
carried-read c = ap (λ (x : Run). x.tally) c.told

-- one tally carried, and then another
pub carried_then :
    {run run' run'' : Run} {x y : Tally} → Carried x run run' → Carried y run' run'' → Carried y run run''
carried_then {y = y} a b = record { told = b.told ∙ ap (λ (r : Run). record r { tally = y }) a.told }

-- ---- a list with one rule more

pub put_one :
    (run : Run) (depth rule word rank cost : ℕ)
    → suc depth < length run.states → suc depth < length run.ranks → suc depth < length run.costs
    → depth < length run.rules
    → Put depth rule word rank cost run
    (record run {
      states = set run.states (suc depth) word;
      ranks = set run.ranks (suc depth) rank;
      costs = set run.costs (suc depth) cost;
      rules = set run.rules depth rule;
    })
put_one run depth rule word rank cost s r c l =
    record {
      state = get_or-set_same run.states (suc depth) word 0 s;
      ranked = get_or-set_same run.ranks (suc depth) rank 0 r;
      cost_told = get_or-set_same run.costs (suc depth) cost 0 c;
      ruled = get_or-set_same run.rules depth rule 0 l;
      kept =
          let low : depth < suc depth = omega arith in
          let one : Run = record run { states = set run.states (suc depth) word } in
          let two : Run = record one { ranks = set run.ranks (suc depth) rank } in
          let three : Run = record two { costs = set run.costs (suc depth) cost } in
          kept_then
          ((kept_set depth (suc depth) word run).0 low).0
          (kept_then
          ((kept_set depth (suc depth) rank one).0 low).1
          (kept_then
          ((kept_set depth (suc depth) cost two).0 low).2
          ((kept_set depth depth rule three).1 (omega arith))));
      tally_kept = refl;
      plan_kept = refl;
    }
