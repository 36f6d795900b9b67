-- `tables::lower_bound::passes` meets its contract.
-- The part of the buffer that is tested is the relabelled block.
use mathlib.Core.Path.{◌≡◌, sym, ap, ◌∙◌}
use mathlib.Core.List.{List}
use Prim.Native.Nat.{ℕ}
use native.Mathlib.Omega.{arith}
use lib.ListN.{length, take}
use Rattle.basics.proofs.Lists.{front-taken}
use Rattle.psvn.specs.Relabelling.{relabel_block}
use Rattle.psvn.proofs.Relabelled.{relabelled-length, abstract-states-relabelled}
use Rattle.distances.specs.LowerBounds as test
use Rattle.tables.specs.Abstraction.{graph_of}
use Rattle.tables.specs.Tables.{passes_test}
use Rattle.tables.proofs.OverRanks.{relabelled-block}
use Rattle.tables.proofs.lower_bound.passes.Goals as goal
use Rattle.tables.proofs.lower_bound.passes.Goals.{After-passes_relabelled, After-relabelled-3-1}

pub relabel_block-requires : goal.relabel_block-requires
relabel_block-requires c =
    (c.requires.0, omega (arith, relabelled-length c.args.block.now, c.relabelled_length-length.ensures))

-- the part that is tested
part :
    (c : After-relabelled-3-1)
    → take c.relabelled_length-length.result
    c.relabel_block.new.out
    ≡ relabel_block c.args.block.now
part c =
    let b = c.args.block.now in
    let n = c.relabelled_length-length in
    ap (take n.result) c.relabel_block.ensures
    ∙ front-taken (relabel_block b) _ n.result (n.ensures.0 ∙ sym (relabelled-length b))

pub slice_bounds-passes_relabelled-end : goal.slice_bounds-passes_relabelled-end
slice_bounds-passes_relabelled-end c =
    let b = c.args.block.now in
    c.relabelled_length-length.ensures.0 ∙ sym (ap length (part c) ∙ relabelled-length b)

pub passes_relabelled-requires : goal.passes_relabelled-requires
passes_relabelled-requires c =
    let b = c.args.block.now in
    rw (part c) (relabelled-block b c.requires.0, omega (arith, abstract-states-relabelled b, c.requires.1))

-- the part that is tested
part-2 :
    (c : After-passes_relabelled)
    → take c.relabelled_length-length.result
    c.relabel_block.new.out
    ≡ relabel_block c.args.block.now
part-2 c =
    let b = c.args.block.now in
    let n = c.relabelled_length-length in
    ap (take n.result) c.relabel_block.ensures
    ∙ front-taken (relabel_block b) _ n.result (n.ensures.0 ∙ sym (relabelled-length b))

pub returns : goal.returns
unfolding passes_test
returns c =
    let t = c.args.table.now in
    c.passes_relabelled.ensures ∙ ap (λ (a : List ℕ). test.passes (graph_of a) t) (part-2 c)
