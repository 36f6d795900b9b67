-- `maps::further_ok` meets its contract.
use Rattle.std.proofs.Common.{◌≡◌, sym, ap, ◌∙◌, Bool, true, false, ◌&&◌, ℕ, suc, ◌+◌, ◌-◌, ◌<◌, ◌≤◌, List, ltb}
use Rattle.std.proofs.Common.{length, get_or, take, drop, length-drop, arith, rules}
use Rattle.std.specs.List.{slice_range}
use Rattle.std.proofs.lemmas.List.{length-take-le, get_or-drop, get_or-take}
use Rattle.std.proofs.lemmas.Iterator.{cases_from_all, YieldsList-from_slice}
use Rattle.basics.specs.Bounded.{all}
use Rattle.basics.proofs.Bounded.{all-ext}
use Rattle.basics.proofs.Chains.{all-slice}
use Rattle.blocks.specs.Layout.{labels}
use Rattle.blocks.specs.Validity.{within}
use Rattle.maps.specs.Maps.{further_map, further_ok}
use Rattle.maps.proofs.further_ok.Goals as goal

-- a test of the bytes 1 to n of a list
part :
    (m : List ℕ) (n : ℕ) (test : ℕ → Bool) → n < length m
    → all (length (slice_range m 1 (1 + n))) (λ k. test (get_or (slice_range m 1 (1 + n)) k 0))
    ≡ all n (λ x. test (get_or m (suc x) 0))
part m n test l =
    let room : n ≤ length (drop 1 m) = omega (arith, length-drop 1 m) in
    let width : 1 + n - 1 ≡ n = omega arith in
    let long : length (slice_range m 1 (1 + n)) ≡ n =
    ap (λ (k : ℕ). length (take k (drop 1 m))) width ∙ length-take-le n (drop 1 m) room in
    ap (λ (k : ℕ). all k (λ k. test (get_or (slice_range m 1 (1 + n)) k 0))) long
    ∙ all-ext (λ k. test (get_or (slice_range m 1 (1 + n)) k 0)) (λ x. test (get_or m (suc x) 0)) n (λ x k.
    let behind : 1 + x ≡ suc x = omega arith in
    ap test
    (get_or-take (1 + n - 1) (drop 1 m) x 0 (omega arith) ∙ get_or-drop 1 m x 0 ∙ ap (λ (j : ℕ). get_or m j 0) behind))

-- the test by the bytes of the map, as the code finds them
module _
    (b m f : List ℕ) (k n : ℕ) (e : m ≡ f) (p : k ≡ get_or m 0 0) (q : n ≡ labels b) where
  abbrev test_of : Bool
  test_of = within 1 (get_or f 0 0) (labels b) && all (labels b) (λ x. ltb (get_or f (suc x) 0) (get_or f 0 0))

  limits-hold : {t : Bool} → true ≡ within 1 k n → t ≡ all n (λ x. ltb (get_or m (suc x) 0) k) → t ≡ test_of
  limits-hold h s = rw (← e, ← q, ← p, sym h) s

  limits-fail : false ≡ within 1 k n → false ≡ test_of
  limits-fail h = rw (← e, ← q, ← p, sym h)

pub returns-then-lies_within : goal.returns-then-lies_within
unfolding further_ok
returns-then-lies_within c =
    let a = c.args in
    let b = a.block.now in
    let m = c.further_map-map.result.now in
    let k = c.from-abstracts.result in
    let n = c.labels-labels.result in
    let e = c.further_map-map.ensures.0 in
    let test : ℕ → Bool = λ x. ltb x k in
    let sum =
    all-slice (slice_range m 1 (1 + n)) test c.all.result
    (cases_from_all _ _ _ (λ x. test x ≡ true) (λ x. test x ≡ false) c.all.ensures.ran
    (YieldsList-from_slice (slice_range m 1 (1 + n)) (cc)) (λ x q k. search rules) (λ x q k. search rules))
    ∙ part m n test (omega arith) in
    limits-hold b m (further_map b a.maps.now a.i) k n e c.from-abstracts.ensures c.labels-labels.ensures.0
    c.if-lies_within.ensures sum

pub returns-else-lies_within : goal.returns-else-lies_within
unfolding further_ok
returns-else-lies_within c =
    let a = c.args in
    c.if-lies_within.false
    ∙ limits-fail a.block.now c.further_map-map.result.now (further_map a.block.now a.maps.now a.i)
    c.from-abstracts.result c.labels-labels.result c.further_map-map.ensures.0 c.from-abstracts.ensures
    c.labels-labels.ensures.0 c.if-lies_within.ensures
