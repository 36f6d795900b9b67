-- `search::scanning::on_path` meets its contract.
-- The states of the path, the last one first, are those up to depth.
use Rattle.std.proofs.Common.{◌≡◌, sym, ◌∙◌, ap, Bool, true, false, ℕ, ◌+◌, ◌-◌, ◌≤◌, ◌<◌, List, length, get_or}
use Rattle.std.proofs.Common.{take, reverse, arith, rules}
use Rattle.std.specs.Bool.{MatchBool}
use Rattle.std.specs.List.{AllWithin, HoldsAt}
use Rattle.std.proofs.lemmas.Iterator.{cases_from_any}
use Rattle.std.proofs.lemmas.Iterator.Adapters.{YieldsList-from_rev_slice}
use Rattle.std.proofs.lemmas.List.{get_or-reverse, get_or-take, length-reverse, length-take}
use Rattle.std.specs.Slice.Iter.{iter_rest}
use Rattle.std.specs.Iterator.Adapters.{rev_source}
use native.Mathlib.Numerals.{add-one}
use lib.Dec.{eqb}
use Rattle.basics.specs.Bounded.{some}
use Rattle.basics.proofs.Bounded.{some-intro, some-none}
use Rattle.search.proofs.scanning.on_path.Goals as goal

module _ (xs : List ℕ) (n : ℕ) (few : n ≤ length xs) (f : ℕ → Bool) where
  -- the first n elements, the last one first
  abbrev back : List ℕ
  back = reverse (take n xs)

  long : length back ≡ n
  long = omega (arith, length-reverse (take n xs), length-take n xs)

  spot : (k : ℕ) → k < n → get_or back (n - 1 - k) 0 ≡ get_or xs k 0
  spot k l =
      let taken : length (take n xs) ≡ n = omega (arith, length-take n xs) in
      let e : length (take n xs) - 1 - (n - 1 - k) ≡ k = omega arith in
      get_or-reverse (take n xs) (n - 1 - k) 0 (omega arith) ∙ ap (λ (i : ℕ). get_or (take n xs) i 0) e
      ∙ get_or-take n xs k 0 l

  any-back :
      (r : Bool)
      → MatchBool r ((k : ℕ) × (k < length back) × HoldsAt (λ x. f x ≡ true) back k)
      (AllWithin (λ x. f x ≡ false) back 0 (length back))
      → r ≡ some n (λ i. f (get_or xs i 0))
  any-back true (k, l, h) =
      let e : n - 1 - (n - 1 - k) ≡ k = omega (arith, long) in
      let same = sym (ap (λ (i : ℕ). get_or back i 0) e) ∙ spot (n - 1 - k) (omega (arith, long)) in
      sym
      (some-intro (λ i. f (get_or xs i 0)) n (n - 1 - k) (omega (arith, long)) (ap f (sym same) ∙ h 0))
  any-back false h =
      sym
      (some-none (λ i. f (get_or xs i 0)) n (λ k l.
      ap f (sym (spot k l)) ∙ h (n - 1 - k) 0 (omega arith) (omega (arith, long))))

pub returns : goal.returns
returns c =
    let states = c.args.run.now.states in
    let is : ℕ → Bool = λ x. eqb c.args.word x in
    let rest : iter_rest (rev_source c.rev.result) ≡ take (c.args.depth + 1) states =
    ap iter_rest c.rev.ensures.source ∙ c.iter.ensures.rest in
    any-back states (c.args.depth + 1) (omega arith) is c.any.result
    (cases_from_any _ _ _ (λ x. is x ≡ true) (λ x. is x ≡ false) c.any.ensures.ran
    (YieldsList-from_rev_slice {s = c.rev.result} (take (c.args.depth + 1) states) rest)
    (λ x q k. search rules) (λ x q k. search rules))
    ∙ ap (λ (n : ℕ). some n (λ i. is (get_or states i 0))) (add-one c.args.depth)
