-- `search::finding::begin` meets its contract.
-- The state stands in front, with its ranks; no rule is used yet.
use mathlib.Core.Path.{refl, ap₂, ◌∙◌}
use Prim.Native.Nat.{ℕ}
use native.Mathlib.Omega.{arith}
use Rattle.words.specs.Changes.{ranks_word}
use Rattle.search.proofs.Runs.{start_small}
use Rattle.search.proofs.finding.begin.Goals as goal

pub pack-word-requires : goal.pack-word-requires
pack-word-requires c = start_small c.requires.0 _ c.requires.1

pub ranks_word-requires : goal.ranks_word-requires
ranks_word-requires c =
    omega (arith, c.positions.ensures.0, c.requires.0.sized.headed.sizes.n_high)

pub returns : goal.returns
returns c =
    let a = c.args in
    let packed = c.pack-word.ensures in
    let count = c.positions.ensures.0 in
    record {
      state = packed;
      ranked = c.ranks_word.ensures ∙ ap₂ (λ (n w : ℕ). ranks_word a.changes.now n w) count packed;
      free = refl;
      allowed = refl;
      limited = refl;
      unused = refl;
    }
