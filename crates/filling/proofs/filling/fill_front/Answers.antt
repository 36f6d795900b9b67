-- `filling::filling::fill_front` meets its contract.
-- The part of the buffer that is compiled is the relabelled block,
-- and the part of the table that is filled its first entries.
use mathlib.Core.Path.{◌≡◌, sym, ap, ◌∙◌, subst}
use mathlib.Core.List.{List, ◌++◌}
use Prim.Native.Nat.{ℕ}
use native.Mathlib.Omega.{arith}
use lib.ListN.{length, take, drop}
use lib.Seq.{length-take-le}
use Rattle.basics.specs.Lists.{at_front}
use Rattle.basics.proofs.Lists.{front-taken}
use Rattle.psvn.specs.Relabelling.{relabel_block}
use Rattle.psvn.proofs.Relabelled.{relabelled-length, abstract-states-relabelled}
use Rattle.blocks.specs.Layout.{abstract_states}
use Rattle.distances.specs.LeastCosts.{least_costs}
use Rattle.distances.specs.Filling.{Good}
use Rattle.tables.specs.Abstraction.{graph_of}
use Rattle.tables.proofs.OverRanks.{relabelled-block}
use Rattle.filling.specs.FilledTables.{filled, Lowered}
use Rattle.filling.proofs.filling.fill_front.Goals as goal
use Rattle.filling.proofs.filling.fill_front.Goals.{After-fill_relabelled-arg-1, After-relabelled-3-1}
use Rattle.filling.proofs.filling.fill_front.Goals.{After-slice_known-2-1}

pub relabel_block-requires : goal.relabel_block-requires
relabel_block-requires c =
    (c.requires.0, omega (arith, relabelled-length c.args.block.now, c.relabelled_length-length.ensures))

-- the part that is compiled
part :
    (c : After-relabelled-3-1)
    → take c.relabelled_length-length.result
    c.relabel_block.new.out
    ≡ relabel_block c.args.block.now
part c =
    let b = c.args.block.now in
    let n = c.relabelled_length-length in
    ap (take n.result) c.relabel_block.ensures
    ∙ front-taken (relabel_block b) _ n.result (n.ensures.0 ∙ sym (relabelled-length b))

pub slice_bounds-fill_relabelled-end : goal.slice_bounds-fill_relabelled-end
slice_bounds-fill_relabelled-end c =
    let b = c.args.block.now in
    c.relabelled_length-length.ensures.0 ∙ sym (ap length (part c) ∙ relabelled-length b)

-- the part that is filled
first-entries :
    (c : After-fill_relabelled-arg-1)
    → length (take c.abstract_states-states.result c.args.table.now)
    ≡ c.abstract_states-states.result
first-entries c =
    length-take-le c.abstract_states-states.result c.args.table.now
    (omega (arith, c.requires.1, c.abstract_states-states.ensures.0))

pub slice_bounds-fill_relabelled-end-3 : goal.slice_bounds-fill_relabelled-end-3
slice_bounds-fill_relabelled-end-3 c = sym (first-entries c)

-- the part that is compiled
part-2 :
    (c : After-fill_relabelled-arg-1)
    → take c.relabelled_length-length.result
    c.relabel_block.new.out
    ≡ relabel_block c.args.block.now
part-2 c =
    let b = c.args.block.now in
    let n = c.relabelled_length-length in
    ap (take n.result) c.relabel_block.ensures
    ∙ front-taken (relabel_block b) _ n.result (n.ensures.0 ∙ sym (relabelled-length b))

pub fill_relabelled-requires : goal.fill_relabelled-requires
fill_relabelled-requires c =
    let b = c.args.block.now in
    let e = first-entries c in
    rw (part-2 c) (
      relabelled-block b c.requires.0,
      omega (
        arith,
        e,
        abstract-states-relabelled b,
        c.abstract_states-states.ensures.0,
      ),
    )

-- good entries at the front of a table, and the rest as it was
lowered :
    (b t t' new : List ℕ) → length new ≡ abstract_states b → Good (graph_of (relabel_block b)) new
    → t' ≡ at_front new t → Lowered b t t'
lowered b t t' new long good e =
    let front : take (abstract_states b) t' ≡ new =
    ap (take (abstract_states b)) e ∙ front-taken new t (abstract_states b) (sym long) in
    record {
      good = subst (Good (graph_of (relabel_block b))) (sym front) good;
      kept = e ∙ ap (λ (l : List ℕ). at_front l t) (sym front);
    }

-- the part that is compiled
part-3 :
    (c : After-slice_known-2-1)
    → take c.relabelled_length-length.result
    c.relabel_block.new.out
    ≡ relabel_block c.args.block.now
part-3 c =
    let b = c.args.block.now in
    let n = c.relabelled_length-length in
    ap (take n.result) c.relabel_block.ensures
    ∙ front-taken (relabel_block b) _ n.result (n.ensures.0 ∙ sym (relabelled-length b))

-- the part that is filled
first-entries-2 :
    (c : After-slice_known-2-1)
    → length (take c.abstract_states-states.result c.args.table.now)
    ≡ c.abstract_states-states.result
first-entries-2 c =
    length-take-le c.abstract_states-states.result c.args.table.now
    (omega (arith, c.requires.1, c.abstract_states-states.ensures.0))

pub returns : goal.returns
unfolding filled
returns c =
    let f = c.fill_relabelled in
    let b = c.args.block.now in
    let t = c.args.table.now in
    let new = f.new.table in
    let long = f.auto.table ∙ first-entries-2 c in
    let same = ap (λ (k : ℕ). new ++ drop k t) (sym long) in
    let relabelled = part-3 c in (
      lowered b t _ new (long ∙ c.abstract_states-states.ensures.0)
          (subst (λ (a : List ℕ). Good (graph_of a) new) relabelled f.ensures.0)
          same,
      λ wanted.
          same
          ∙ ap (λ (l : List ℕ). at_front l t)
          (f.ensures.1 wanted ∙ ap (λ (a : List ℕ). least_costs (graph_of a)) relabelled),
    )
