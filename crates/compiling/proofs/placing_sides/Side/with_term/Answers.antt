-- `compiling::placing_sides::Side::with_term` meets its contract.
-- Each arm is the definition's case for the term decoded.
use Rattle.std.proofs.Common.{◌≡◌, ℕ, ◌<◌, ◌≤◌, Bool, eqb, Some, sym, ◌∙◌, ⊎_elim}
use native.Mathlib.Omega.{arith}
use Rattle.basics.specs.Bounded.{first, find}
use Rattle.basics.proofs.Bounded.{find-first, find-holds, find-missing}
use Rattle.blocks.specs.Sides.{left_terms, right_terms}
use Rattle.compiling.proofs.TermsPlaced.{unbound-more, taken-variable, taken-dash, taken_refused}
use Rattle.compiling.proofs.placing_sides.Side.with_term.Goals as goal

-- the first position on the left where the variable stands
found :
    (n : ℕ) (left : ℕ → ℕ) (v from : ℕ) → find n (λ j. eqb (left j) v) ≡ Some from
    → (from ≡ first n (λ j. eqb (left j) v)) × (from < n)
found n left v from e =
    let stands : ℕ → Bool = λ j. eqb (left j) v in
    (sym (find-first stands n from e), (find-holds stands n from e).0)

pub with_source-requires : goal.with_source-requires
with_source-requires c =
    let a = c.args in
    let q = a.sides.now in
    let h = c.requires in
    let few : q.n ≤ 16 = omega arith in
    let left = left_terms q in
    let from = found q.n left c.in-Variable.v c.in-Some.from (sym c.first_of.ensures ∙ c.in-Some.is) in
    (omega arith, omega (arith, from.1), h.begun.few)

pub returns-in-Label : goal.returns-in-Label
returns-in-Label c =
    let a = c.args in
    let q = a.sides.now in
    let h = c.requires in
    let few : q.n ≤ 16 = omega arith in
    let left = left_terms q in
    let side = right_terms q in
    let e = sym c.decode.ensures ∙ c.in-Label.is in
    c.with_constant.ensures.begun q.n left side h.i_in_bounds few e h.begun

pub returns-in-Some : goal.returns-in-Some
returns-in-Some c =
    let a = c.args in
    let q = a.sides.now in
    let h = c.requires in
    let few : q.n ≤ 16 = omega arith in
    let left = left_terms q in
    let side = right_terms q in
    let e = sym c.decode.ensures ∙ c.in-Variable.is in
    let from = found q.n left c.in-Variable.v c.in-Some.from (sym c.first_of.ensures ∙ c.in-Some.is) in
    c.with_source.ensures.begun q.n left side h.i_in_bounds few from.1
    (taken-variable q.n left side a.i h.i_in_bounds _ c.in-Some.from e from.0) h.begun

pub returns-in-None : goal.returns-in-None
returns-in-None c =
    let a = c.args in
    let q = a.sides.now in
    let h = c.requires in
    let few : q.n ≤ 16 = omega arith in
    let left = left_terms q in
    let side = right_terms q in
    let e = sym c.decode.ensures ∙ c.in-Variable.is in
    let none = find-missing (λ j. eqb (left j) c.in-Variable.v) q.n (sym c.first_of.ensures ∙ c.in-None.is) in
    unbound-more q.n left side a.self a.i h.i_in_bounds few h.begun q.n
    (taken-variable q.n left side a.i h.i_in_bounds _ q.n e (sym none)) (omega arith)

pub returns-in-Dash : goal.returns-in-Dash
returns-in-Dash c =
    let a = c.args in
    let q = a.sides.now in
    let h = c.requires in
    let few : q.n ≤ 16 = omega arith in
    let left = left_terms q in
    let side = right_terms q in
    let li = h.i_in_bounds in
    let e = sym c.decode.ensures in
    c.with_source-in-Dash.ensures.begun q.n left side li few li
    (⊎_elim (λ d. taken-dash q.n left side a.i li (e ∙ d)) (λ r. taken_refused q.n left side a.i li (e ∙ r))
    c.in-Dash.is)
    h.begun
