-- The four cases of `term_of`, each from a fact about the byte, and that every byte falls into one (`view`); a label is
-- below 16 (`label-lt`), a variable is its byte (`variable-byte`), and a dash is one byte (`dash-byte`). The proofs of
-- decoding, matching, relabelling, stepping back and compiling go by these cases.
use mathlib.Core.Path.{◌≡◌, refl, sym, ap, ◌∙◌}
use mathlib.Core.Bool.{Bool, true, false}
use mathlib.Core.Option.{Option, none, some, none-ne-some, some-injective}
use Prim.Native.Nat.{ℕ, ◌≤◌, ◌<◌}
use native.Mathlib.Omega.{arith}
use lib.Dec.{ltb, eqb, lit<}
use borrow.Author.Tests.{lt-ltb, le-ltb, eq-eqb, ne_eqb, ltb-true, ltb-false, eqb-true, eqb-false}
use Rattle.blocks.specs.Terms.{term_of, is_dash}
use Rattle.blocks.specs.declared.labels.ConcreteLabel.{ConcreteLabel}
use Rattle.blocks.specs.declared.terms.Term.{Term}
use Rattle.blocks.specs.declared.terms.Term.TheVariants.{Label, Variable, Dash, Refused}

pub is-label : (t : ℕ) → t < 16 → term_of t ≡ Label (record { 0 = t })
is-label t h = simp (lt-ltb t 16 h)

pub is-variable : (t : ℕ) → 16 ≤ t → t < 32 → term_of t ≡ Variable t
is-variable t h g = simp (le-ltb t 16 h, lt-ltb t 32 g)

pub is_dash_lem : (t : ℕ) → t ≡ 255 → term_of t ≡ Dash
is_dash_lem t h = rw h

pub is-refused : (t : ℕ) → 32 ≤ t → (t ≡ 255 → ⊥) → term_of t ≡ Refused
is-refused t h g = let k : 16 ≤ t = omega arith in simp (le-ltb t 16 k, le-ltb t 32 h, ne_eqb t 255 g)

-- the four cases of a byte
pub data View : ℕ → Type 0 where
  label : {t : ℕ} → t < 16 → View t
  variable : {t : ℕ} → 16 ≤ t → t < 32 → View t
  dash : {t : ℕ} → t ≡ 255 → View t
  refused : {t : ℕ} → 32 ≤ t → (t ≡ 255 → ⊥) → View t

pub view : (t : ℕ) → View t
view t = go (ltb t 16) refl (ltb t 32) refl (eqb t 255) refl
  where
    go : (a : Bool) → ltb t 16 ≡ a → (b : Bool) → ltb t 32 ≡ b → (c : Bool) → eqb t 255 ≡ c → View t
    go true e b f c g = label (ltb-true t 16 e)
    go false e true f c g = variable (ltb-false t 16 e) (ltb-true t 32 f)
    go false e false f true g = dash (eqb-true t 255 g)
    go false e false f false g = refused (ltb-false t 32 f) (eqb-false t 255 g)

-- a label decoded is below 16
abbrev label_in : Term → ℕ
label_in (Label c) = c.0
label_in (Variable v) = 0
label_in Dash = 0
label_in Refused = 0

pub label-lt : (byte : ℕ) (c : ConcreteLabel) → term_of byte ≡ Label c → c.0 < 16
label-lt byte c e = rw (sym (ap label_in e)) (go (view byte))
  where
    go : View byte → label_in (term_of byte) < 16
    go (label a) = rw (ap label_in (is-label byte a)) a
    go (variable a b) = rw (ap label_in (is-variable byte a b)) (lit< tt)
    go (dash a) = rw (ap label_in (is_dash_lem byte a)) (lit< tt)
    go (refused a b) = rw (ap label_in (is-refused byte a b)) (lit< tt)

-- a variable decoded is the byte
abbrev variable_in : Term → Option ℕ
variable_in (Label c) = none
variable_in (Variable v) = some v
variable_in Dash = none
variable_in Refused = none

pub variable-byte : (byte v : ℕ) → term_of byte ≡ Variable v → v ≡ byte
variable-byte byte v e = go (view byte)
  where
    other : variable_in (term_of byte) ≡ none → v ≡ byte
    other h = absurd (none-ne-some v (sym h ∙ ap variable_in e))

    go : View byte → v ≡ byte
    go (label a) = other (ap variable_in (is-label byte a))
    go (variable a b) = some-injective v byte (ap variable_in (sym e ∙ is-variable byte a b))
    go (dash a) = other (ap variable_in (is_dash_lem byte a))
    go (refused a b) = other (ap variable_in (is-refused byte a b))

pub dash-byte : (t : ℕ) → is_dash (term_of t) ≡ eqb t 255
dash-byte t = go (view t)
  where
    go : View t → is_dash (term_of t) ≡ eqb t 255
    go (label a) = ap is_dash (is-label t a) ∙ sym (ne_eqb t 255 (λ e. omega arith))
    go (variable a b) = ap is_dash (is-variable t a b) ∙ sym (ne_eqb t 255 (λ e. omega arith))
    go (dash e) = ap is_dash (is_dash_lem t e) ∙ sym (eq-eqb t 255 e)
    go (refused a b) = ap is_dash (is-refused t a b) ∙ sym (ne_eqb t 255 b)
