-- What is said of choices position by position, whatever they are: a list keeps to them (`Keeps`), and each goes by the
-- labels before its position alone (`Near`). What `Keeping`, `Succession` and `Completing` show is stated with these.
use mathlib.Core.Path.{◌≡◌}
use mathlib.Core.Bool.{true}
use mathlib.Core.List.{List}
use Prim.Native.Nat.{ℕ, ◌<◌}
use lib.ListN.{get_or}
use Rattle.backward.specs.Choices.{Choice, keeps_of}

-- u keeps to the choices at each of the n positions
abbrev pub Keeps : ℕ → (List ℕ → ℕ → Choice) → List ℕ → Type 0
Keeps n choices u = (i : ℕ) → i < n → keeps_of (choices u i) (get_or u i 0) ≡ true

-- lists that agree before a position have the same choice there
abbrev pub Near : (List ℕ → ℕ → Choice) → Type 0
Near choices =
    (u v : List ℕ) (i : ℕ) → ((k : ℕ) → k < i → get_or u k 0 ≡ get_or v k 0) → choices u i ≡ choices v i
