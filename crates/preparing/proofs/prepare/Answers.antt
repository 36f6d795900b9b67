-- `preparing::prepare` meets its contract.
-- Writing the sets keeps what the code says of its block, and the ranks go by the weights at the front.
use mathlib.Core.Path.{◌≡◌, ◌∙◌}
use Prim.Native.Nat.{◌+◌}
use native.Mathlib.Omega.{arith}
use lib.Seq.{get_or-set_same}
use Rattle.maps.specs.Maps.{all_maps}
use Rattle.words.proofs.KeptCode.{compiled-kept}
use Rattle.rank_changes.proofs.RankAfter.{ranks-front}
use Rattle.preparing.specs.Prepared.{Packed}
use Rattle.preparing.proofs.PackedRanks.{packed-ranks, all-ranks-low}
use Rattle.preparing.proofs.prepare.Goals as goal
use Rattle.preparing.proofs.prepare.Goals.{After-place_changes}

pub compile-requires : goal.compile-requires
compile-requires c = c.requires.valid 0 (omega arith)

-- the ranks tell where entries stand
packed :
    (c : After-place_changes)
    → (let a = c.args in
    Packed a.block.now a.maps.now c.place_changes.new.changes)
packed c =
    let b = c.args.block.now in
    let maps = c.args.maps.now in
    let kept = c.place_changes.ensures.by_index in
    let count = c.further_maps in
    let told : 1 + count.result ≡ all_maps b maps = omega (arith, count.ensures) in
    record {
      maps_told = kept.1 ∙ get_or-set_same c.args.changes.now 256 _ 0 (omega arith) ∙ told;
      ranks = λ t ok.
          ranks-front b (c.requires.valid 0 (omega arith)) _ _ kept.0 t ok
          ∙ packed-ranks b maps c.requires t ok _ c.packed_weights-singles.ensures;
    }

pub returns : goal.returns
returns c =
    let sets = c.place_sets.ensures in
    let p = packed c in record {
      prepared = record {
        compiled = compiled-kept sets.1 c.compile.ensures;
        rule_sets =
            rw (← c.rules.ensures.0, ← c.positions.ensures.0)
            sets.0;
        changed = c.place_changes.ensures.changed;
        some_map = omega (arith, p.maps_told);
        ranks_low = all-ranks-low c.args.block.now c.args.maps.now _ c.requires p;
      };
      packed = p;
    }
