-- The numbers of an answer's record are bytes (`answer-small`), where its goal and those of its plan are and the plan
-- has at most 255 steps; four bytes hold what is below 2^32 (`four_below`, `four-back`). That a printed answer line
-- reads back as its answer rests on this.
use mathlib.Core.Path.{◌≡◌, refl}
use mathlib.Core.List.{List, [], ◌∷◌, ◌++◌}
use Prim.Native.Nat.{ℕ, zero, suc, ◌≤◌, ◌<◌}
use native.Mathlib.Omega.{arith}
use lib.ListN.{length, get_or}
use Rattle.basics.specs.Lists.{Bytes}
use Rattle.basics.proofs.Digits.{length_digits, digit-below, value-below, value-digits}
use Rattle.basics.proofs.ByteLists.{bytes-append}
use Rattle.rounds.specs.Rounds.{Answer, found, no_plan, spent, visits}
use Rattle.records.specs.Records.{number_of, bytes_of, plan_front, plan_bytes, answer_bytes}

bytes-more : (x : ℕ) (l : List ℕ) → x ≤ 255 → Bytes l → Bytes (x ∷ l)
bytes-more x l p q zero = p
bytes-more x l p q (suc i) = q i

-- a list is one of bytes where the elements that it has are bytes
pub bytes-within : (l : List ℕ) → ((i : ℕ) → i < length l → get_or l i 0 ≤ 255) → Bytes l
bytes-within [] h = λ i. omega arith
bytes-within (x ∷ l) h = bytes-more x l (h 0 (omega arith)) (bytes-within l (λ i k. h (suc i) (omega arith)))

four-small : (x : ℕ) → Bytes (bytes_of x)
four-small x =
    bytes-within (bytes_of x) (λ i l.
    let d = digit-below (λ j. 256) (λ j. omega arith) 4 x i (omega (arith, length_digits (λ j. 256) 4 x)) in
    omega arith)

-- the bytes of a plan, with its steps, its cost and the visits in front
plan-small : (cost used : ℕ) (p : List ℕ) → length p ≤ 255 → Bytes p → Bytes (plan_bytes cost used p)
plan-small cost used p few small =
    let numbers = bytes-append (bytes_of cost) (bytes_of used) (four-small cost) (four-small used) in
    bytes-append (plan_front (length p) cost used) p
    (bytes-more (length p) (bytes_of cost ++ bytes_of used) few numbers) small

-- the bytes of an answer with no plan
bare-small : (status used : ℕ) → status ≤ 2 → Bytes (status ∷ plan_bytes 0 used [])
bare-small status used p =
    bytes-more status (plan_bytes 0 used []) (omega arith) (plan-small 0 used [] (omega arith) (λ i. omega arith))

pub answer-small :
    (goal : ℕ) (a : Answer)
    → ((u c : ℕ) (p : List ℕ) → a ≡ found u p c → (goal ≤ 255) × (length p ≤ 255) × Bytes p)
    → Bytes (answer_bytes goal a)
answer-small goal (found u p c) h =
    let (low, few, small) = h u c p refl in
    let bytes = plan_bytes c (visits (found u p c)) p in
    bytes-more 0 (goal ∷ bytes) (omega arith)
    (bytes-more goal bytes low (plan-small c (visits (found u p c)) p few small))
answer-small goal (no_plan u) h = bare-small 1 (visits (no_plan u)) (omega arith)
answer-small goal (spent u) h = bare-small 2 (visits (spent u)) (omega arith)

-- a number of four bytes is below 2^32, and such a number has four bytes
pub four_below : (q : List ℕ) → Bytes q → number_of q < 4294967296
four_below q small = value-below (λ i. 256) q 4 (λ i l. let h = small i in omega arith)

pub four-back : (x : ℕ) → x < 4294967296 → number_of (bytes_of x) ≡ x
four-back x l = value-digits (λ i. 256) (λ i. omega arith) 4 x l
