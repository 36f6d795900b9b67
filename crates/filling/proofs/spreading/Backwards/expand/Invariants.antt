-- `filling::spreading::Backwards::expand` meets its contract.
-- The loop's invariant: the table is good, and what is left are rules whose constants agree; their set falls.
use Rattle.std.proofs.Common.{◌≡◌, true, ℕ, ◌^◌, ◌<◌, get_or}
use Rattle.basics.specs.Sets.{member}
use Rattle.blocks.specs.Layout as layout
use Rattle.words.specs.Sides.{left_place, constants_word}
use Rattle.distances.specs.Filling.{Good}
use Rattle.tables.specs.Abstraction.{graph_of}
use Rattle.filling.proofs.spreading.Backwards.expand.Given as goal

abbrev pub invariant-loop-rest : goal.invariant-loop-rest
invariant-loop-rest l =
    let b = l.self.ranked.compiled.block.now in
    let word = get_or l.self.ranked.words.now l.v 0 in
    Good (graph_of b) l.table × (l.rest < 2 ^ 64)
    × ((r : ℕ) → member l.rest r ≡ true
    → (r < layout.rules b) × (constants_word l.self.back.now (left_place r) word ≡ true))

abbrev pub decreases-loop-rest : goal.decreases-loop-rest
decreases-loop-rest l = l.rest
