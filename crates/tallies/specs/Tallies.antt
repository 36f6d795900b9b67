-- A tally with one overshoot more (`overshot_by`), and one with a visit more (`with_visit`).
-- The functions on tallies are stated with them, and with those the scan of extensions and the visits of the search.
use Rattle.std.specs.Prelude.{ℕ, ◌+◌, min}
use Rattle.tallies.specs.declared.Tally.{Tally}

-- "the least overshoot so far": the visits used stay as they are
abbrev pub overshot_by : Tally → ℕ → Tally
overshot_by tally figure = record { visits = tally.visits; least = min tally.least figure }

-- a visit is used: the least overshoot so far stays as it is
abbrev pub with_visit : Tally → Tally
with_visit tally = record { visits = tally.visits + 1; least = tally.least }
