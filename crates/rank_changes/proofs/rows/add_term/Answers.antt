-- `rank_changes::rows::add_term` meets its contract.
-- Each arm is the definition's case for the term decoded.
use Rattle.std.proofs.Common.{◌≡◌, ℕ, Bool, true, eqb, get_or, sym, ap, ◌∙◌, ◌<◌, ◌≤◌, ⊎_elim, arith}
use Rattle.std.specs.Prelude.{is_some}
use Rattle.basics.specs.Bounded.{find}
use Rattle.basics.proofs.Bounded.{find-is_some, find-holds, find-first}
use Rattle.blocks.specs.Sides.{left_terms, right_terms}
use Rattle.blocks.specs.Terms.{term_of}
use Rattle.blocks.specs.Validity.{bound_in}
use Rattle.blocks.specs.declared.terms.Term.TheVariants.{Variable}
use Rattle.blocks.proofs.TermCases.{label-lt}
use Rattle.psvn.specs.Rules.{bound, given}
use Rattle.rank_changes.specs.Rows.{Bound}
use Rattle.rank_changes.proofs.RowSums.{constant-more, row_more}
use Rattle.rank_changes.proofs.rows.add_term.Goals as goal

-- a right variable stands on the left
stands :
    {n : ℕ} {left right : ℕ → ℕ} {i : ℕ} → Bound n left right → i < n → (v : ℕ) → term_of (right i) ≡ Variable v
    → is_some (find n (λ j. eqb (left j) v)) ≡ true
stands {n} {left} {right} {i} bound l v e =
    find-is_some (λ j. eqb (left j) v) n ∙ ap (bound_in n left) (sym e) ∙ bound.at i l

pub bounds-singles-i : goal.bounds-singles-i
bounds-singles-i c =
    let e = sym c.decode.ensures ∙ c.in-Label.is in
    omega (arith, label-lt (right_terms c.args.sides.now c.args.i) _ e, c.from.ensures)

pub unwrap-p-requires : goal.unwrap-p-requires
unwrap-p-requires c =
    let s = c.args.sides.now in
    let e = sym c.decode.ensures ∙ c.in-Variable.is in
    ap is_some c.first_of.ensures ∙ stands c.requires.bound c.requires.i_in_bounds c.in-Variable.v e

pub add_row-requires : goal.add_row-requires
add_row-requires c =
    let s = c.args.sides.now in
    let found = sym c.first_of.ensures ∙ c.unwrap-p.ensures in
    omega (arith, (find-holds (λ j. eqb (left_terms s j) c.in-Variable.v) s.n _ found).0)

pub returns-in-Label : goal.returns-in-Label
returns-in-Label c =
    let a = c.args in
    let s = a.sides.now in
    let few : s.n ≤ 16 = omega arith in
    let e = sym c.decode.ensures ∙ c.in-Label.is in
    constant-more s.n (left_terms s) (right_terms s) a.singles.now few c.requires.balanced _ c.from.result e
    c.from.ensures

pub returns-in-Variable : goal.returns-in-Variable
unfolding bound
returns-in-Variable c =
    let a = c.args in
    let h = c.requires in
    let s = a.sides.now in
    let few : s.n ≤ 16 = omega arith in
    let e = sym c.decode.ensures ∙ c.in-Variable.is in
    let here : ℕ → Bool = λ j. eqb (left_terms s j) c.in-Variable.v in
    let found = sym c.first_of.ensures ∙ c.unwrap-p.ensures in
    row_more s.n (left_terms s) (right_terms s) a.singles.now few h.balanced c.unwrap-p.result
    (find-holds here s.n _ found).0
    (λ t. ap (given s.n (left_terms s) t a.i) e ∙ ap (λ (j : ℕ). get_or t j 0) (find-first here s.n _ found))
    c.add_row.ensures

pub returns-in-Dash : goal.returns-in-Dash
returns-in-Dash c =
    let a = c.args in
    let h = c.requires in
    let s = a.sides.now in
    let few : s.n ≤ 16 = omega arith in
    let e = sym c.decode.ensures in
    row_more s.n (left_terms s) (right_terms s) a.singles.now few h.balanced a.i h.i_in_bounds
    (λ t.
    ⊎_elim (λ d. ap (given s.n (left_terms s) t a.i) (e ∙ d)) (λ r. ap (given s.n (left_terms s) t a.i) (e ∙ r))
    c.in-Dash.is)
    c.add_row-in-Dash.ensures
