-- `tables::edges::Compiled::passes_at` meets its contract.
-- By the cases of the test: a goal's entry, no cost, an entry that is not the mark, the mark.
use mathlib.Core.Path.{◌≡◌, sym, ap, ap₂, ◌∙◌}
use mathlib.Core.Bool.{Bool}
use mathlib.Core.List.{List}
use Prim.Native.Nat.{ℕ, ◌≤◌}
use native.Mathlib.Omega.{arith}
use lib.Dec.{leb}
use lib.ListN.{get_or}
use Rattle.basics.specs.Marks.{mark}
use Rattle.basics.proofs.Truth.{true-false}
use Rattle.psvn.specs.Rules.{meets}
use Rattle.psvn.specs.Ranks.{unrank}
use Rattle.words.specs.Sides.{meets_word}
use Rattle.distances.specs.Filling.{Cheap}
use Rattle.distances.proofs.Passing.{ZeroAtGoal}
use Rattle.distances.proofs.TestAt.{test-goal, test-none, test-leb, test-marked}
use Rattle.blocks.specs.Layout.{goals}
use Rattle.words.specs.Ranking.{word_of}
use Rattle.tables.specs.Abstraction.{graph_of, Ready}
use Rattle.tables.proofs.WordEdges.{word-goal, cheap}
use Rattle.tables.proofs.edges.Compiled.passes_at.Goals as goal
use Rattle.tables.proofs.edges.Compiled.passes_at.Goals.{After-from, Else-entry-lt-MARK, Then-least-ge-NO_COST}
use Rattle.tables.proofs.edges.Compiled.passes_at.Goals.{then-entry-gt0+else-meets_word, else-entry-gt0}

-- the goal test, of the words that the code makes
goal-there :
    (b code weights : List ℕ) (u word g : ℕ) (m : Bool) → Ready b code weights → word ≡ word_of b u → g ≡ goals b
    → m ≡ meets_word code g word → meets b (unrank b u) ≡ m
goal-there b code weights u word g m ready at goals-there met =
    sym (met ∙ ap₂ (meets_word code) goals-there at ∙ word-goal b code weights ready u)

pub returns-then-meets_word : goal.returns-then-meets_word
returns-then-meets_word c =
    let a = c.args in
    sym (test-goal (graph_of a.self.now.block.now) a.table.now a.u
    (goal-there a.self.now.block.now a.self.now.code.now a.self.now.weights.now a.u a.word c.goals.result
    c.meets_word.result a.self.now.ready c.requires.u_bound.1 c.goals.ensures.0
    c.meets_word.ensures ∙ c.if-meets_word.true)
    (λ z. omega (arith, z, c.if-entry-gt0.true)))

-- the entries are numbers of 32 bits, and the costs bytes
entries : (c : Then-least-ge-NO_COST) (v : ℕ) → get_or c.args.table.now v 0 ≤ mark
entries c v = omega (arith, c.shared_slice_known-2-1.given v)

costs : (c : Then-least-ge-NO_COST) → Cheap (graph_of c.args.self.now.block.now)
costs c =
    cheap c.args.self.now.block.now c.args.self.now.code.now c.args.self.now.weights.now c.args.self.now.ready

-- where the ways of the first test meet, the entry of a goal is 0
zero-there :
    (c : Then-least-ge-NO_COST)
    → let a = c.args in
    ZeroAtGoal (graph_of a.self.now.block.now) a.table.now a.u
zero-there c e =
    let a = c.args in
    elim c.if-entry-gt0.branch [
      | then-entry-gt0+else-meets_word w ↦
          absurd (true-false e (goal-there a.self.now.block.now a.self.now.code.now a.self.now.weights.now a.u a.word
          w.goals.result w.meets_word.result a.self.now.ready c.requires.u_bound.1 w.goals.ensures.0
          w.meets_word.ensures ∙ w.if-meets_word.false))
      | else-entry-gt0 w ↦ omega (arith, w.if-entry-gt0.false)
    ]

pub returns-then-least-ge-NO_COST : goal.returns-then-least-ge-NO_COST
returns-then-least-ge-NO_COST c =
    let a = c.args in
    sym (test-none (graph_of a.self.now.block.now) a.table.now a.u c.best-least.result (entries c) (costs c)
    c.best-least.ensures (zero-there c) c.if-least-ge-NO_COST.true)

-- the entries are numbers of 32 bits, and the costs bytes
entries-2 : (c : After-from) (v : ℕ) → get_or c.args.table.now v 0 ≤ mark
entries-2 c v = omega (arith, c.shared_slice_known-2-1.given v)

costs-2 : (c : After-from) → Cheap (graph_of c.args.self.now.block.now)
costs-2 c =
    cheap c.args.self.now.block.now c.args.self.now.code.now c.args.self.now.weights.now c.args.self.now.ready

-- where the ways of the first test meet, the entry of a goal is 0
zero-there-2 :
    (c : After-from)
    → let a = c.args in
    ZeroAtGoal (graph_of a.self.now.block.now) a.table.now a.u
zero-there-2 c e =
    let a = c.args in
    elim c.if-entry-gt0.branch [
      | then-entry-gt0+else-meets_word w ↦
          absurd (true-false e (goal-there a.self.now.block.now a.self.now.code.now a.self.now.weights.now a.u a.word
          w.goals.result w.meets_word.result a.self.now.ready c.requires.u_bound.1 w.goals.ensures.0
          w.meets_word.ensures ∙ w.if-meets_word.false))
      | else-entry-gt0 w ↦ omega (arith, w.if-entry-gt0.false)
    ]

pub returns-then-entry-lt-MARK : goal.returns-then-entry-lt-MARK
returns-then-entry-lt-MARK c =
    let a = c.args in
    let x = c.best-least.result in
    ap (λ (y : ℕ). leb y x) c.from.ensures
    ∙ sym (test-leb (graph_of a.self.now.block.now) a.table.now a.u x (entries-2 c) (costs-2 c) c.best-least.ensures
    (zero-there-2 c) c.if-entry-lt-MARK.true)

-- the entries are numbers of 32 bits, and the costs bytes
entries-3 : (c : Else-entry-lt-MARK) (v : ℕ) → get_or c.args.table.now v 0 ≤ mark
entries-3 c v = omega (arith, c.shared_slice_known-2-1.given v)

costs-3 : (c : Else-entry-lt-MARK) → Cheap (graph_of c.args.self.now.block.now)
costs-3 c =
    cheap c.args.self.now.block.now c.args.self.now.code.now c.args.self.now.weights.now c.args.self.now.ready

pub returns : goal.returns
returns c =
    let a = c.args in
    sym (test-marked (graph_of a.self.now.block.now) a.table.now a.u c.best-least.result (entries-3 c) (costs-3 c)
    c.best-least.ensures c.if-entry-lt-MARK.false c.if-least-ge-NO_COST.false)
