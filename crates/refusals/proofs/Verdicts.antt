-- Laws of `verdict`: what an accepting verdict says of its conditions, and conditions that stand behind others; and of
-- `guarded`: what an outcome says of the verdict behind it.
-- The proofs of all that refuses rest on these.
use mathlib.Core.Path.{◌≡◌, refl, sym, ap}
use mathlib.Core.Bool.{Bool, true, false}
use mathlib.Core.List.{List, [], ◌∷◌, ◌++◌}
use Prim.Native.Nat.{ℕ}
use native.Mathlib.Omega.{arith}
use Rattle.refusals.specs.Answers.{Answer, refused, told, Condition, ◌unless◌, verdict, Outcome, outcome, guarded}

pub told-refused : {A : Type 0} {v : Answer A} {a : A} {k : ℕ} → v ≡ told a → v ≡ refused k → ⊥
told-refused p q = let z : ◌≡◌ {A = ℕ} 0 1 = cc in omega arith

-- an accepting verdict: the first condition holds, and the others give an accepting verdict
pub verdict-told :
    (k : ℕ) (holds : Bool) (cs : List Condition)
    → verdict (k unless holds ∷ cs) ≡ told tt → (holds ≡ true) × (verdict cs ≡ told tt)
verdict-told k true cs h = (refl, h)
verdict-told k false cs h = absurd (told-refused h refl)

-- conditions behind others
pub verdict-behind : (cs ds : List Condition) → verdict cs ≡ told tt → verdict (cs ++ ds) ≡ verdict ds
verdict-behind [] ds h = refl
verdict-behind (k unless true ∷ cs) ds h = verdict-behind cs ds h
verdict-behind (k unless false ∷ cs) ds h = absurd (told-refused h refl)

pub verdict-before : (cs ds : List Condition) (n : ℕ) → verdict cs ≡ refused n → verdict (cs ++ ds) ≡ refused n
verdict-before [] ds n h = absurd (told-refused refl h)
verdict-before (k unless true ∷ cs) ds n h = verdict-before cs ds n h
verdict-before (k unless false ∷ cs) ds n h = h

pub verdict-parts :
    (cs ds : List Condition) → verdict (cs ++ ds) ≡ told tt → (verdict cs ≡ told tt) × (verdict ds ≡ told tt)
verdict-parts [] ds h = (refl, h)
verdict-parts (k unless true ∷ cs) ds h = verdict-parts cs ds h
verdict-parts (k unless false ∷ cs) ds h = absurd (told-refused h refl)

-- a condition that always holds
pub verdict-skip : (cs ds : List Condition) (k : ℕ) → verdict (cs ++ (k unless true ∷ ds)) ≡ verdict (cs ++ ds)
verdict-skip [] ds k = refl
verdict-skip (j unless true ∷ cs) ds k = verdict-skip cs ds k
verdict-skip (j unless false ∷ cs) ds k = refl

-- the verdict behind an outcome, where an accepted call tells something
module _ {A : Type 0} (old new out : List ℕ) (a : A) where
  pub guarded-refused :
      (k : ℕ) (v : Answer (Unit {0})) → outcome (refused k) out ≡ guarded v old (outcome (told a) new)
      → (v ≡ refused k) × (out ≡ old)
  guarded-refused k (refused n) e =
      let answers : ◌≡◌ {A = Answer A} (refused k) (refused n) = ap (λ (o : Outcome A). o.answer) e in
      (cc, ap (λ (o : Outcome A). o.out) e)
  guarded-refused k (told u) e =
      let answers : ◌≡◌ {A = Answer A} (refused k) (told a) = ap (λ (o : Outcome A). o.answer) e in
      absurd (told-refused refl (sym answers))

  pub guarded-told :
      (b : A) (v : Answer (Unit {0})) → outcome (told b) out ≡ guarded v old (outcome (told a) new)
      → (v ≡ told tt) × (b ≡ a) × (out ≡ new)
  guarded-told b (refused n) e =
      let answers : ◌≡◌ {A = Answer A} (told b) (refused n) = ap (λ (o : Outcome A). o.answer) e in
      absurd (told-refused refl answers)
  guarded-told b (told u) e =
      let answers : ◌≡◌ {A = Answer A} (told b) (told a) = ap (λ (o : Outcome A). o.answer) e in
      (refl, cc, ap (λ (o : Outcome A). o.out) e)
