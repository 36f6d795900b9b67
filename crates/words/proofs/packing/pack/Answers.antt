-- `words::packing::pack` meets its contract.
use Rattle.std.proofs.Common.{◌≡◌, ℕ, ◌+◌, ◌^◌, ◌<◌, ◌≤◌, List, [], ◌∷◌, ◌++◌, length, get_or, sym, ap, ◌∙◌}
use Rattle.std.proofs.Common.{lt_of_lt_of_le, arith, append_assoc, length-append, refl, rules}
use Rattle.std.proofs.lemmas.List.{get_or-append-add, nil_from_length}
use Rattle.words.specs.Packing as packing
use Rattle.words.proofs.WordDigits.{pack-below, power-fits}
use Rattle.words.proofs.packing.pack.Goals as goal

-- the labels behind `rest` fit a word
fits :
    (rest tail state : List ℕ) → state ≡ rest ++ tail → length state ≤ 16
    → ((i : ℕ) → i < length state → get_or state i 0 < 16) → packing.pack tail < 2 ^ 64
fits rest tail state e few small =
    let long : length state ≡ length rest + length tail = ap length e ∙ length-append rest tail in
    lt_of_lt_of_le
    (pack-below tail (λ k l.
    let at : get_or state (length rest + k) 0 ≡ get_or tail k 0 =
    ap (λ (s : List ℕ). get_or s (length rest + k) 0) e ∙ get_or-append-add rest tail k 0 in
    omega (arith, at, small (length rest + k) (omega arith))))
    (power-fits (length tail) (omega arith))

-- the label taken stands behind the rest, in front of those taken before
taken :
    (rest rest' tail state : List ℕ) (label : ℕ) → state ≡ rest ++ tail → rest ≡ rest' ++ label ∷ []
    → state ≡ rest' ++ label ∷ tail
taken rest rest' tail state label e f =
    e ∙ ap (λ (s : List ℕ). s ++ tail) f ∙ append_assoc rest' (label ∷ []) tail

pub loop-label-init : goal.loop-label-init
loop-label-init c = ([], search rules, refl)

pub overflow_mul-word : goal.overflow_mul-word
overflow_mul-word c =
    let (tail, stands, word) = c.loop-label.invariant in
    let e = taken _ _ tail c.args.state.now c.in-Some.label.now stands c.in-Some.ensures.steps in
    omega (arith, word, fits _ (c.in-Some.label.now ∷ tail) _ e c.requires.0 c.requires.1)

pub overflow_add-word : goal.overflow_add-word
overflow_add-word c =
    let (tail, stands, word) = c.loop-label.invariant in
    let e = taken _ _ tail c.args.state.now c.in-Some.label.now stands c.in-Some.ensures.steps in
    omega (arith, word, c.from.ensures, fits _ (c.in-Some.label.now ∷ tail) _ e c.requires.0 c.requires.1)

pub loop-label-preserved : goal.loop-label-preserved
loop-label-preserved c =
    let (tail, stands, word) = c.loop-label.invariant in (
      c.in-Some.label.now ∷ tail,
      taken _ _ tail c.args.state.now c.in-Some.label.now stands c.in-Some.ensures.steps,
      omega (arith, word, c.from.ensures),
    )

pub returns : goal.returns
returns c =
    let (tail, stands, word) = c.loop-label.invariant in
    let none = nil_from_length _ c.in-None.ensures.steps.0 in
    word ∙ ap packing.pack (sym (stands ∙ ap (λ (s : List ℕ). s ++ tail) none))
