-- What a byte of a rule or a goal stands for (document 01: a term), by its range: `term_of`.
-- Validity, matching and relabelling go by it.
use Rattle.std.specs.Prelude.{ℕ, Bool, true, false, cond, ltb, eqb}
use Rattle.blocks.specs.declared.terms.Term.{Term}
use Rattle.blocks.specs.declared.terms.Term.TheVariants.{Label, Variable, Dash, Refused}

-- hexadecimal 00 to 0F a label, 10 to 1F a variable, FF a dash, the others no terms
abbrev pub term_of : ℕ → Term
term_of byte =
    cond (ltb byte 16) (Label (record { 0 = byte }))
    (cond (ltb byte 32) (Variable byte)
    (cond (eqb byte 255) Dash Refused))

-- a term, and a label below the count
abbrev pub term_ok : ℕ → Term → Bool
term_ok count (Label label) = ltb label.0 count
term_ok count (Variable v) = true
term_ok count Dash = true
term_ok count Refused = false

-- the term is a dash
abbrev pub is_dash : Term → Bool
is_dash (Label label) = false
is_dash (Variable v) = false
is_dash Dash = true
is_dash Refused = false
