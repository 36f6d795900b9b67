-- Figures as numbers, and the estimates that entries give: a number or the mark as one number (`number_below`,
-- `entry_estimate`, `figure_of`), the largest of the entries at the ranks of a state (`largest_at`) and the figure by
-- it (`entry_figure`). `StandsFor` says what the code's figure tells of the one that is meant. The search is stated
-- with these.
use Rattle.std.specs.Prelude.{◌≡◌, ◌⊎◌, cond, List, ℕ, zero, suc, ◌+◌, ◌/◌, ◌%◌, ◌≤◌, ◌<◌, max, ltb, get_or}
use Rattle.basics.specs.Marks as marks
use Rattle.rounds.specs.Systems.{Estimate, mark, at}

-- a number below the limit, and the mark from there on
abbrev pub number_below : ℕ → ℕ → Estimate
number_below limit x = cond (ltb x limit) (at x) mark

-- the estimate that a table's entry gives
abbrev pub entry_estimate : ℕ → Estimate
entry_estimate entry = number_below marks.mark entry

-- a figure as the code has it: the largest number stands for none
abbrev pub no_figure : ℕ
no_figure = 18446744073709551615

abbrev pub figure_of : ℕ → Estimate
figure_of x = number_below no_figure x

-- the figure that an entry gives a list of this cost
unfoldable pub entry_figure : ℕ → ℕ → ℕ
entry_figure cost entry = cond (ltb entry marks.mark) (cost + entry) no_figure

-- the largest of the entries at k ranks, which stand in one number: the mark is above all
unfoldable pub largest_at : List ℕ → ℕ → ℕ → ℕ
largest_at table ranks zero = 0
largest_at table ranks (suc k) = max (get_or table (ranks % 65536) 0) (largest_at table (ranks / 65536) k)

-- f stands for the figure g in a round at the threshold T with this least overshoot: it is g, or both are above the
-- threshold and lower nothing, so that it does not matter which of them is looked at
abbrev pub StandsFor : ℕ → ℕ → ℕ → ℕ → Type 0
StandsFor T least f g = (f ≡ g) ⊎ ((T < f) × (least ≤ f) × (f ≤ g))
