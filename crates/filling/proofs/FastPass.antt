-- Where a table that the fast pass leaves passes the lower-bound test, it is the filled table: `lowered-filled`. So the
-- sweeps have nothing left to do there.
-- Whoever watches the fast pass goes by this.
use mathlib.Core.Path.{◌≡◌, ap, ◌∙◌}
use mathlib.Core.Bool.{true}
use mathlib.Core.List.{List}
use Prim.Native.Nat.{ℕ, ◌≤◌, ◌<◌}
use native.Mathlib.Omega.{arith}
use lib.ListN.{get_or, take}
use lib.Seq.{get_or-take}
use Rattle.basics.specs.Lists.{at_front}
use Rattle.basics.specs.Marks.{mark}
use Rattle.blocks.specs.Layout.{abstract_states}
use Rattle.blocks.specs.Validity.{Valid}
use Rattle.psvn.specs.Relabelling.{relabel_block}
use Rattle.psvn.proofs.Relabelled.{abstract-states-relabelled}
use Rattle.distances.specs.Graphs.{Graph}
use Rattle.distances.proofs.Passing.{passes_same}
use Rattle.distances.proofs.Exactness.{exact-entries}
use Rattle.distances.proofs.LeastCostLaws.{least-costs-only}
use Rattle.tables.specs.Abstraction.{graph_of}
use Rattle.tables.specs.Tables.{passes_test}
use Rattle.filling.specs.FilledTables.{filled, CostBytes, Lowered}
use Rattle.filling.proofs.LeastEntries.{few, cheap}

module _ (b : List ℕ) (v : Valid b) (bytes : CostBytes b) where
  pub lowered-filled :
      (t t' : List ℕ) → Lowered b t t' → passes_test b t' ≡ true → ((k : ℕ) → get_or t' k 0 ≤ mark)
      → t' ≡ at_front (filled b) t
  unfolding passes_test filled
  lowered-filled t t' left passing small =
      let g : Graph = graph_of (relabel_block b) in
      let front = take (abstract_states b) t' in
      let same : (k : ℕ) → k < g.states → get_or front k 0 ≡ get_or t' k 0 =
      λ k l. get_or-take (abstract_states b) t' k 0 (omega (arith, abstract-states-relabelled b)) in
      let exact =
      exact-entries g front left.good.len (passes_same g t' front same passing) (λ u l n.
      let m : get_or front u 0 < mark = omega (arith, same u l, small u) in
      (m, left.good.achieved u l m)) in
      left.kept
      ∙ ap (λ (x : List ℕ). at_front x t) (least-costs-only g (cheap b v bytes) (few b v bytes) front exact)
