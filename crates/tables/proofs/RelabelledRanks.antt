-- The rank of a relabelled state, label by label: the number of the first i labels (`part_rank`), one label more
-- (`part-more`), and that it stays small (`part_small`, `whole_below`).
-- The code of an estimate rests on these.
use mathlib.Core.Path.{◌≡◌, ap, ◌∙◌}
use mathlib.Core.Bool.{true}
use mathlib.Core.List.{List}
use Prim.Native.Nat.{ℕ, ◌+◌, ◌*◌, ◌≤◌, ◌<◌}
use native.Mathlib.Numerals.{add-one}
use native.Mathlib.Omega.{arith}
use lib.ListN.{get_or}
use Rattle.basics.specs.Digits.{value_to}
use Rattle.basics.proofs.Digits.{value_grows}
use Rattle.blocks.specs.Layout.{positions, abstract_count, abstract_states, map_at}
use Rattle.blocks.specs.Validity.{Valid}
use Rattle.blocks.specs.States.{state_ok}
use Rattle.blocks.proofs.StateLaws.{labelled-at}
use Rattle.psvn.specs.Relabelling.{relabel_state}
use Rattle.psvn.specs.Ranks.{rank}
use Rattle.psvn.proofs.Relabelled.{relabelled-label}
use Rattle.psvn.proofs.Stepping.{relabelled-state}
use Rattle.psvn.proofs.RankLaws.{rank_below}

abbrev pub part_rank : List ℕ → List ℕ → ℕ → ℕ
part_rank b s i = value_to (abstract_count b) (relabel_state b s) i

module _ (b s : List ℕ) where
  pub part-more :
      (i : ℕ) → i < positions b → part_rank b s (i + 1)
      ≡ part_rank b s i * abstract_count b i + map_at b i (get_or s i 0)
  part-more i l =
      ap (part_rank b s) (add-one i)
      ∙ ap (λ (x : ℕ). part_rank b s i * abstract_count b i + x) (relabelled-label b s i l)

  pub part-all : (i : ℕ) → i ≡ positions b → part_rank b s i ≡ rank b (relabel_state b s)
  unfolding rank
  part-all i e = ap (part_rank b s) e

  module _ (v : Valid b) (ok : state_ok b s ≡ true) where
    pub whole_below : rank b (relabel_state b s) < abstract_states b
    whole_below = rank_below b (relabel_state b s) (relabelled-state b v s ok)

    pub part_small : (i : ℕ) → i ≤ positions b → part_rank b s i ≤ 16384
    unfolding rank
    part_small i l =
        let u = relabel_state b s in
        let g =
        value_grows (abstract_count b) u i (positions b) l
        (labelled-at (positions b) (abstract_count b) u (relabelled-state b v s ok)) in
        omega (arith, whole_below, v.sized.headed.few)
