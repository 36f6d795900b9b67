-- What a state that a rule takes to the state s may hold at a position, when its labels
-- before that position are known: one label only, or any (`choice`), which `Some` and `None` tell. The code
-- builds the next predecessor by these choices; what it is, `Predecessors` says without them.
use Rattle.std.specs.Prelude.{◌≡◌, ℕ, suc, ◌+◌, ◌≤◌, ◌<◌, Bool, true, cond, ◌&&◌, List, ltb, eqb, length, get_or}
use Rattle.std.specs.Prelude.{Option, Some, None}
use Rattle.basics.specs.Bounded.{all, first}
use Rattle.blocks.specs.Terms.{term_of, is_dash}
use Rattle.blocks.specs.declared.labels.ConcreteLabel.{ConcreteLabel}
use Rattle.blocks.specs.declared.terms.Term.{Term}
use Rattle.blocks.specs.declared.terms.Term.TheVariants.{Label, Variable, Dash, Refused}
use Rattle.backward.specs.Reversible.{shows}

-- the only label that may stand there, or none where any may
abbrev pub Choice : Type 0
Choice = Option ConcreteLabel

-- the label x only
abbrev pub only : ℕ → Choice
only x = Some (record { 0 = x })

-- where the variable v stands on the left: the label that s shows
-- of v, or the label at v's first position, if that is before i
abbrev pub variable_choice : ℕ → (ℕ → ℕ) → (ℕ → ℕ) → List ℕ → List ℕ → ℕ → ℕ → Choice
variable_choice n left right s u i v =
    cond (ltb (first n (shows left right v)) n) (only (get_or s (first n (shows left right v)) 0))
    (cond (ltb (first n (λ j. eqb (left j) v)) i) (only (get_or u (first n (λ j. eqb (left j) v)) 0)) None)

abbrev pub term_choice : ℕ → (ℕ → ℕ) → (ℕ → ℕ) → List ℕ → List ℕ → ℕ → Term → Choice
term_choice n left right s u i (Label label) = Some label
term_choice n left right s u i (Variable v) = variable_choice n left right s u i v
term_choice n left right s u i Dash = None
term_choice n left right s u i Refused = None

-- position i of a state that begins as u does: the label that s keeps there, or what the left term allows
unfoldable pub choice : ℕ → (ℕ → ℕ) → (ℕ → ℕ) → List ℕ → List ℕ → ℕ → Choice
choice n left right s u i =
    cond (is_dash (term_of (right i))) (only (get_or s i 0)) (term_choice n left right s u i (term_of (left i)))

-- the choices of a predecessor of s, where the rule has these sides
abbrev pub choices_of : (ℕ → ℕ) → (ℕ → ℕ) → List ℕ → List ℕ → ℕ → Choice
choices_of left right s = choice (length s) left right s

-- the least label that may stand there; the least above x; whether
-- there is one above x, below the count; whether x may stand there
abbrev pub least_of : Choice → ℕ
least_of (Some label) = label.0
least_of None = 0

abbrev pub raised_of : Choice → ℕ → ℕ
raised_of (Some label) x = label.0
raised_of None x = x + 1

abbrev pub rises_of : ℕ → Choice → ℕ → Bool
rises_of count (Some label) x = ltb x label.0
rises_of count None x = ltb (x + 1) count

abbrev pub keeps_of : Choice → ℕ → Bool
keeps_of (Some label) x = eqb x label.0
keeps_of None x = true

-- the labels of e before position m may stand where they do
abbrev pub kept_to : (List ℕ → ℕ → Choice) → List ℕ → ℕ → Bool
kept_to choices e m = all m (λ k. keeps_of (choices e k) (get_or e k 0))

-- they do before position i, and the label there can be raised
abbrev pub raisable_at : (ℕ → ℕ) → (List ℕ → ℕ → Choice) → List ℕ → ℕ → Bool
raisable_at count choices e i = kept_to choices e i && rises_of (count i) (choices e i) (get_or e i 0)

-- u begins as e does, and goes on from position `from` with the least labels
pub record Completed (choices : List ℕ → ℕ → Choice) (n from : ℕ) (e u : List ℕ) : Type 0 where
  pub before : (k : ℕ) → k < from → get_or u k 0 ≡ get_or e k 0
  pub after : (k : ℕ) → from ≤ k → k < n → get_or u k 0 ≡ least_of (choices u k)

-- u begins as e does, is raised at position i, and goes on with the least labels
pub record Raised (choices : List ℕ → ℕ → Choice) (n i : ℕ) (e u : List ℕ) : Type 0 where
  pub before : (k : ℕ) → k < i → get_or u k 0 ≡ get_or e k 0
  pub here : get_or u i 0 ≡ raised_of (choices e i) (get_or e i 0)
  pub after : (k : ℕ) → suc i ≤ k → k < n → get_or u k 0 ≡ least_of (choices u k)
