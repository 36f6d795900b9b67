-- `match_parts::answers::print_state` meets its contract.
-- A state has a label below 16 at each of at most 16 positions.
use native.Mathlib.Omega.{arith}
use Rattle.blocks.proofs.StateLaws.{state-length, label-below}
use Rattle.match_parts.proofs.answers.print_state.Goals as goal

pub print_sides-requires-clause-sides : goal.print_sides-requires-clause-sides
print_sides-requires-clause-sides g c = λ k l.
    let n = state-length c.args.block.now c.args.state.now c.requires.1 in
    (c.requires.0, n, omega (arith, l, c.rules-left_sides.ensures.0, c.goals.ensures.0))

pub pack-word-requires : goal.pack-word-requires
pack-word-requires g c =
    let b = c.args.block.now in
    let h = c.requires.0.headed in
    let n = state-length b c.args.state.now c.requires.1 in
    (omega (arith, h.sizes.n_high), λ i l. label-below b h c.args.state.now c.requires.1 i (omega arith))
