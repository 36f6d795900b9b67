-- Laws of `tabulate`, `joined`, `at_front` and of runs of stores: lengths, elements, and one element or one part more;
-- lists that agree at each place are equal (`same-list`). The loops that write a buffer, and all that is said of the
-- bytes of a relabelled block, rest on these.
use mathlib.Core.Path.{◌≡◌, refl, sym, ap, ap₂, ◌∙◌}
use mathlib.Core.Logic.{⊎_elim}
use mathlib.Core.List.{List, [], ◌∷◌, ◌++◌, append-nil, append_assoc}
use Prim.Native.Nat.{ℕ, zero, suc, ◌+◌, ◌*◌, ◌-◌, ◌≤◌, ◌<◌}
use native.Mathlib.Nat.{eq-or-lt_of_le, le_of_suc-le-suc, not-suc-le-zero, add-zero, suc-add, add-suc, zero-add}
use native.Mathlib.Omega.{arith}
use native.Mathlib.Numerals.{add-one}
use lib.ListN.{length, get_or, set, take, drop, length-append, get_or-append, length-drop, drop_of_length-le}
use lib.ListN.{length-set}
use lib.Seq.{ext_get_or, get_or-append-add, get_or-set_same, get_or-set_other, set-append_left, take-length, take_at}
use lib.Seq.{sets, sets-eq, take_all, take-append_seam, drop-append_seam, drop-append-add, drop-append-le, drop_at}
use lib.Seq.{drop-drop}
use borrow.Author.Count.{below_more}
use borrow.Rule.Slice.PartMut.{mid_of, put_mid}
use Rattle.basics.specs.Lists.{tabulate_from, tabulate, joined, at_front}
use Rattle.basics.specs.Sums.{sum_to}
use Rattle.basics.proofs.Sums.{sum_same, sum-rises}

length_from : (n i : ℕ) (f : ℕ → ℕ) → length (tabulate_from i n f) ≡ n
length_from zero i f = refl
length_from (suc n) i f = ap suc (length_from n (suc i) f)

get_or-from : (n i : ℕ) (f : ℕ → ℕ) (k : ℕ) → k < n → get_or (tabulate_from i n f) k 0 ≡ f (i + k)
get_or-from zero i f k l = absurd (not-suc-le-zero l)
get_or-from (suc n) i f zero l = ap f (sym (add-zero i))
get_or-from (suc n) i f (suc k) l =
    get_or-from n (suc i) f k (le_of_suc-le-suc l) ∙ ap f (suc-add i k ∙ sym (add-suc i k))

snoc-from : (n i : ℕ) (f : ℕ → ℕ) → tabulate_from i (suc n) f ≡ tabulate_from i n f ++ (f (i + n) ∷ [])
snoc-from zero i f = ap (λ (k : ℕ). f k ∷ []) (sym (add-zero i))
snoc-from (suc n) i f =
    ap (λ (l : List ℕ). f i ∷ l)
    (snoc-from n (suc i) f
    ∙ ap (λ (k : ℕ). tabulate_from (suc i) n f ++ (f k ∷ [])) (suc-add i n ∙ sym (add-suc i n)))

module _ (n : ℕ) (f : ℕ → ℕ) where
  pub length-tabulate : length (tabulate n f) ≡ n
  length-tabulate = length_from n 0 f

  pub get_or-tabulate : (k : ℕ) → k < n → get_or (tabulate n f) k 0 ≡ f k
  get_or-tabulate k l = get_or-from n 0 f k l ∙ ap f (zero-add k)

  tabulate-snoc : tabulate (suc n) f ≡ tabulate n f ++ (f n ∷ [])
  tabulate-snoc = snoc-from n 0 f ∙ ap (λ (k : ℕ). tabulate n f ++ (f k ∷ [])) (zero-add n)

-- lists of n elements that agree at each place are equal
pub same-list :
    (n : ℕ) (u v : List ℕ) → length u ≡ n → length v ≡ n → ((k : ℕ) → k < n → get_or u k 0 ≡ get_or v k 0) → u ≡ v
same-list n u v a b h = ext_get_or 0 u v (a ∙ sym b) (λ i l. h i (omega arith))

-- tables that agree at each index
pub tabulate-ext : (n : ℕ) (f g : ℕ → ℕ) → ((k : ℕ) → k < n → f k ≡ g k) → tabulate n f ≡ tabulate n g
tabulate-ext n f g h =
    same-list n (tabulate n f) (tabulate n g) (length-tabulate n f) (length-tabulate n g) (λ k l.
    get_or-tabulate n f k l ∙ h k l ∙ sym (get_or-tabulate n g k l))

-- lists of the lengths g 0, g 1, .. behind one another
module _ (f : ℕ → List ℕ) (g : ℕ → ℕ) where
  pub length-joined-sum : (n : ℕ) → ((r : ℕ) → r < n → length (f r) ≡ g r) → length (joined n f) ≡ sum_to g n
  length-joined-sum zero h = refl
  length-joined-sum (suc n) h =
      length-append (joined n f) (f n)
      ∙ ap₂ ◌+◌ (length-joined-sum n (λ r l. h r (omega arith))) (h n (omega arith))

  pub get_or-joined-sum :
      (n : ℕ) → ((r : ℕ) → r < n → length (f r) ≡ g r)
      → (r k : ℕ) → r < n → k < g r → get_or (joined n f) (sum_to g r + k) 0 ≡ get_or (f r) k 0
  get_or-joined-sum zero h r k l m = absurd (not-suc-le-zero l)
  get_or-joined-sum (suc n) h r k l m =
      let len = length-joined-sum n (λ r l. h r (omega arith)) in
      ⊎_elim
      (λ e.
      rw e
      (ap (λ (i : ℕ). get_or (joined n f ++ f n) (i + k) 0) (sym len) ∙ get_or-append-add (joined n f) (f n) k 0))
      (λ j.
      let a = sum-rises g (suc r) n j in
      get_or-append (joined n f) (f n) 0 (sum_to g r + k) (omega arith)
      ∙ get_or-joined-sum n (λ r l. h r (omega arith)) r k j m)
      (eq-or-lt_of_le (le_of_suc-le-suc l))

-- lists of one length w behind one another
module _ (f : ℕ → List ℕ) (w : ℕ) (n : ℕ) (h : (r : ℕ) → r < n → length (f r) ≡ w) where
  pub length-joined : length (joined n f) ≡ n * w
  length-joined = length-joined-sum f (λ r. w) n h ∙ sum_same w n

  pub get_or-joined : (r k : ℕ) → r < n → k < w → get_or (joined n f) (r * w + k) 0 ≡ get_or (f r) k 0
  get_or-joined r k l m =
      ap (λ (i : ℕ). get_or (joined n f) (i + k) 0) (sym (sum_same w r)) ∙ get_or-joined-sum f (λ r. w) n h r k l m

-- one list more, within all of them
pub joined-more : (f : ℕ → List ℕ) (r : ℕ) → joined (r + 1) f ≡ joined r f ++ f r
joined-more f r = ap (λ (k : ℕ). joined k f) (add-one r)

pub joined-within : (f : ℕ → List ℕ) (n r : ℕ) → r < n → length (joined r f) + length (f r) ≤ length (joined n f)
joined-within f zero r l = absurd (not-suc-le-zero l)
joined-within f (suc n) r l =
    let e = length-append (joined n f) (f n) in
    ⊎_elim (λ q. rw q (omega arith))
    (λ k. let ih = joined-within f n r k in omega arith)
    (eq-or-lt_of_le (le_of_suc-le-suc l))

-- list r of those of one length w that stand at the front
pub joined-part :
    (f : ℕ → List ℕ) (w n : ℕ) → ((r : ℕ) → r < n → length (f r) ≡ w) → (rest : List ℕ) (r : ℕ) → r < n
    → take w (drop (r * w) (joined n f ++ rest)) ≡ f r
joined-part f w zero h rest r l = absurd (not-suc-le-zero l)
joined-part f w (suc n) h rest r l =
    let before = length-joined f w n (λ k m. h k (omega arith)) in
    let last : take w (drop (n * w) (joined n f ++ (f n ++ rest))) ≡ f n =
    ap (take w) (drop_at (joined n f) (f n ++ rest) (n * w) before) ∙ take_at (f n) rest w (h n (omega arith)) in
    ap (λ (t : List ℕ). take w (drop (r * w) t)) (append_assoc (joined n f) (f n) rest)
    ∙ ⊎_elim (λ q. rw q last) (λ k. joined-part f w n (λ i m. h i (omega arith)) (f n ++ rest) r k)
    (eq-or-lt_of_le (le_of_suc-le-suc l))

pub joined-ext : (f g : ℕ → List ℕ) (n : ℕ) → ((r : ℕ) → r < n → f r ≡ g r) → joined n f ≡ joined n g
joined-ext f g zero h = refl
joined-ext f g (suc n) h = ap₂ ◌++◌ (joined-ext f g n (λ r l. h r (omega arith))) (h n (omega arith))

-- a loop stores the values of f from the front on: one element more
pub set_more :
    (f : ℕ → ℕ) (l : List ℕ) (i x : ℕ) → ((k : ℕ) → k < i → get_or l k 0 ≡ f k) → i < length l → x ≡ f i
    → (k : ℕ) → k < i + 1 → get_or (set l i x) k 0 ≡ f k
set_more f l i x h b e =
    below_more (λ k. get_or (set l i x) k 0 ≡ f k) i (λ k m. get_or-set_other l i k x 0 (λ q. omega arith) ∙ h k m)
    (get_or-set_same l i x 0 b ∙ e)

-- stores one after the other are one run of stores
pub sets-append : (l : List ℕ) (i : ℕ) (a b : List ℕ) → sets (sets l i a) (i + length a) b ≡ sets l i (a ++ b)
sets-append l i [] b = ap (λ (k : ℕ). sets l k b) (add-zero i)
sets-append l i (x ∷ a) b =
    ap (λ (k : ℕ). sets (sets (set l i x) (suc i) a) k b) (add-suc i (length a) ∙ sym (suc-add i (length a)))
    ∙ sets-append (set l i x) (suc i) a b

-- one element more of a table that a loop writes from index `at` on
pub sets_more :
    (l : List ℕ) (at i : ℕ) (f : ℕ → ℕ) (x : ℕ)
    → x ≡ f i → set (sets l at (tabulate i f)) (at + i) x ≡ sets l at (tabulate (i + 1) f)
sets_more l at i f x e =
    ap (λ (k : ℕ). set (sets l at (tabulate i f)) (at + k) x) (sym (length-tabulate i f))
    ∙ sets-append l at (tabulate i f) (x ∷ [])
    ∙ ap (λ (y : ℕ). sets l at (tabulate i f ++ (y ∷ []))) e
    ∙ ap (sets l at) (sym (tabulate-snoc i f) ∙ ap (λ (k : ℕ). tabulate k f) (sym (add-one i)))

-- a run of stores right behind another
pub sets_behind :
    (l : List ℕ) (i : ℕ) (a b : List ℕ) {m o : List ℕ} {j : ℕ}
    → m ≡ sets l i a → j ≡ i + length a → o ≡ sets m j b → o ≡ sets l i (a ++ b)
sets_behind l i a b e p q = q ∙ ap₂ (λ (x : List ℕ) (k : ℕ). sets x k b) e p ∙ sets-append l i a b

-- a run of stores from the front on, in a list that is long enough
pub sets-front : (l new : List ℕ) → length new ≤ length l → sets l 0 new ≡ at_front new l
sets-front l new h =
    sets-eq new l 0 (omega arith) ∙ ap (λ (k : ℕ). new ++ drop k l) (zero-add (length new))

-- a list at the front of one that is no longer
pub front-whole : (new old : List ℕ) → length old ≤ length new → at_front new old ≡ new
front-whole new old h = ap (λ (l : List ℕ). new ++ l) (drop_of_length-le old h) ∙ append-nil new

-- writing at the front makes no list shorter
pub front-longer : (new old : List ℕ) → length old ≤ length (at_front new old)
front-longer new old = omega (arith, length-append new (drop (length new) old), length-drop (length new) old)

-- what is written lies in the list
pub front_fits : (new old : List ℕ) → length new ≤ length (at_front new old)
front_fits new old = omega (arith, length-append new (drop (length new) old))

-- an element of the list at the front replaced
pub set_front : (new old : List ℕ) (i x : ℕ) → i < length new → set (at_front new old) i x ≡ at_front (set new i x) old
set_front new old i x l =
    set-append_left new (drop (length new) old) i x l
    ∙ ap (λ (k : ℕ). set new i x ++ drop k old) (sym (length-set new i x))

-- what is read back of a list at the front
pub front-taken : (new old : List ℕ) (n : ℕ) → n ≡ length new → take n (at_front new old) ≡ new
front-taken new old n e = take_at new (drop (length new) old) n (sym e)

-- a list at the front of one that has a shorter list at its front
pub front-over :
    (new first old : List ℕ) → length first ≤ length new → at_front new (at_front first old) ≡ at_front new old
front-over new first old l =
    let d = length new - length first in
    let e : length new ≡ length first + d = omega arith in
    ap (λ (rest : List ℕ). new ++ rest)
    (ap (λ (k : ℕ). drop k (at_front first old)) e
    ∙ drop-append-add first (drop (length first) old) d
    ∙ drop-drop d (length first) old
    ∙ ap (λ (k : ℕ). drop k old) (sym e))

-- a list at the front of one that has a longer list at its front
pub front-within :
    (new first old : List ℕ) → length new ≤ length first
    → at_front new (at_front first old) ≡ at_front (at_front new first) old
front-within new first old l =
    let behind = drop (length new) first in
    let same : length (new ++ behind) ≡ length first =
    omega (arith, length-append new behind, length-drop (length new) first) in
    ap (λ (rest : List ℕ). new ++ rest) (drop-append-le (length new) first (drop (length first) old) l)
    ∙ sym (append_assoc new behind (drop (length first) old))
    ∙ ap (λ (k : ℕ). (new ++ behind) ++ drop k old) (sym same)

-- one list more in the part of a list behind what stands at its front
module _ (front more old : List ℕ) where
  abbrev whole : List ℕ
  whole = at_front front old

  abbrev rest : List ℕ
  rest = drop (length front) old

  laid-behind :
      (k : ℕ) → k ≡ length whole - length front
      → put_mid (length front) k whole (at_front more (mid_of (length front) k whole)) ≡ at_front (front ++ more) old
  laid-behind k e =
      let n = length front in
      let m : length rest ≤ k = omega (arith, e, length-append front rest) in
      let behind : drop n whole ≡ rest = drop-append_seam front rest in
      let mid : mid_of n k whole ≡ rest = ap (take k) behind ∙ take_all k rest m in
      let post : drop k (drop n whole) ≡ [] = ap (drop k) behind ∙ drop_of_length-le rest m in
      ap₂ (λ (a b : List ℕ). a ++ (at_front more b ++ drop k (drop n whole))) (take-append_seam front rest) mid
      ∙ ap (λ (l : List ℕ). front ++ (at_front more rest ++ l)) post
      ∙ ap (λ (l : List ℕ). front ++ l) (append-nil (at_front more rest))
      ∙ sym (append_assoc front more (drop (length more) rest))
      ∙ ap (λ (l : List ℕ). (front ++ more) ++ l) (drop-drop (length more) n old)
      ∙ ap (λ (i : ℕ). (front ++ more) ++ drop i old) (sym (length-append front more))

  pub front-behind :
      {list new : List ℕ} {at k : ℕ} → at ≡ length front → list ≡ whole → k ≡ length list - at
      → new ≡ at_front more (mid_of at k list) → put_mid at k list new ≡ at_front (front ++ more) old
  front-behind {list} {at = at} {k = k} a l e n =
      ap (put_mid at k list) n
      ∙ ap₂ (λ (t : ℕ) (o : List ℕ). put_mid t k o (at_front more (mid_of t k o))) a l
      ∙ laid-behind k (omega (arith, a, e, ap length l))

-- all that stands from a place on
pub rest-whole : (at : ℕ) (l : List ℕ) → take (length l - at) (drop at l) ≡ drop at l
rest-whole at l = take_all (length l - at) (drop at l) (omega (arith, length-drop at l))

-- what is written where all elements of a list are copied
pub copied-whole : (s l : List ℕ) → at_front (take (length s) s) l ≡ at_front s l
copied-whole s l = ap (λ (x : List ℕ). at_front x l) (take-length s)
