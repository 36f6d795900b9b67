-- Lists of rule numbers over a system: where they lead (`run`), what they cost (`total_cost`), when they are open
-- (`Open`) and reach a goal (`Reaches`), their figure (`figure`), and the order by rule numbers (`Before`, `Sooner`).
-- The promises of the search are stated with these.
use Rattle.std.specs.Prelude.{◌≡◌, ◌⊎◌, true, List, [], ◌∷◌, ℕ, ◌+◌, ◌≤◌, ◌<◌, length}
use Rattle.std.proofs.Math.Option.{Option, none, some, bind}
use Rattle.rounds.specs.Systems.{System, Estimate, mark, plus}

-- a list that goes on from a state, and is empty where there is none
abbrev pub follow : {A B : Type 0} → Option A → (A → List B) → List B
follow none f = []
follow (some a) f = f a

-- the figure of a cost and the estimate of a state, where there is one
abbrev pub plus_maybe : {A : Type 0} → ℕ → (A → Estimate) → Option A → Estimate
plus_maybe g h none = mark
plus_maybe g h (some t) = plus g (h t)

-- x is none of a list
abbrev pub Avoids : {A : Type 0} → A → List A → Type 0
Avoids x [] = Unit {0}
Avoids x (y ∷ ys) = (¬ (x ≡ y)) × Avoids x ys

-- none of a list occurs twice
abbrev pub Once : {A : Type 0} → List A → Type 0
Once [] = Unit {0}
Once (x ∷ xs) = Avoids x xs × Once xs

-- the order by rule numbers, a prefix before its extensions: p is q, or comes first
abbrev pub Before : List ℕ → List ℕ → Type 0
Before [] q = Unit {0}
Before (r ∷ p) [] = ⊥
Before (r ∷ p) (i ∷ q) = (r < i) ⊎ ((r ≡ i) × Before p q)

-- p comes before q, and is not q
abbrev pub Sooner : List ℕ → List ℕ → Type 0
Sooner p q = Before p q × (¬ (p ≡ q))

module _ (Y : System) where
  -- where the rules of a list lead, applied in turn
  abbrev pub run : Y.State → List ℕ → Option Y.State
  run s [] = some s
  run s (r ∷ p) = bind (Y.step r s) (λ t. run t p)

  -- the cost of a list: the sum of its rules' costs
  abbrev pub total_cost : List ℕ → ℕ
  total_cost [] = 0
  total_cost (r ∷ p) = Y.cost r + total_cost p

  -- the states that a list passes after its first
  abbrev pub rest : Y.State → List ℕ → List Y.State
  rest s [] = []
  rest s (r ∷ p) = follow (Y.step r s) (λ t. t ∷ rest t p)

  -- the path of a list, its start included
  abbrev pub path : Y.State → List ℕ → List Y.State
  path s p = s ∷ rest s p

  -- an open list, for the step limit d: its rules apply in turn,
  -- no state occurs twice on its path, and it has at most d rules
  pub record Open (d : ℕ) (s : Y.State) (p : List ℕ) : Type 0 where
    pub applies : (t : Y.State) × (run s p ≡ some t)
    pub once : Once (path s p)
    pub short : length p ≤ d

  -- a list that reaches a goal; it may pass a state twice
  pub record Reaches (s : Y.State) (p : List ℕ) : Type 0 where
    pub final : Y.State
    pub runs : run s p ≡ some final
    pub meets : Y.goal final ≡ true

  -- the figure of a list: its cost plus the estimate of its last state
  abbrev pub figure : (Y.State → Estimate) → Y.State → List ℕ → Estimate
  figure h s p = plus_maybe (total_cost p) h (run s p)
