-- What turns a call back: a verdict refuses with the number of the first condition that fails, both ways (`failing`,
-- `failing-refuses`); so a call whose value is guarded by its conditions refuses as `Refuses` says (`refuses`), and one
-- that is lent no buffer too (`refuses-answer`). Demand 1 is shown with these.
use mathlib.Core.Path.{◌≡◌, refl, sym, ap, ◌∙◌}
use mathlib.Core.Bool.{true, false}
use mathlib.Core.List.{List, [], ◌∷◌}
use Prim.Native.Nat.{ℕ}
use lib.ListN.{length}
use Rattle.refusals.specs.Answers.{Answer, refused, told, Condition, ◌unless◌, verdict, answered}
use Rattle.refusals.specs.Answers.{Outcome, guarded}
use Rattle.refusals.proofs.Verdicts.{told-refused, verdict-behind}
use Rattle.demands.specs.Demands.{numbers, FirstFailing, Refuses, RefusesAnswer}

same_number : {A : Type 0} (j k : ℕ) → ◌≡◌ {A = Answer A} (refused j) (refused k) → j ≡ k
same_number j k e = cc

pub failing : (cs : List Condition) (k : ℕ) → verdict cs ≡ refused k → FirstFailing cs k
failing [] k h = absurd (told-refused refl h)
failing (n unless true ∷ cs) k h =
    let f = failing cs k h in
    record {
      before = n unless true ∷ f.before;
      behind = f.behind;
      parts = ap (λ (x : List Condition). n unless true ∷ x) f.parts;
      hold = f.hold;
    }
failing (n unless false ∷ cs) k h =
    record { before = []; behind = cs; parts = ap (λ (j : ℕ). j unless false ∷ cs) (same_number n k h); hold = refl }

pub failing-refuses : (cs : List Condition) (k : ℕ) → FirstFailing cs k → verdict cs ≡ refused k
failing-refuses cs k f = ap verdict f.parts ∙ verdict-behind f.before (k unless false ∷ f.behind) f.hold

module _ {A : Type 0} (order : List ℕ) (conditions : ℕ → List Condition) (value accepted : List ℕ → Outcome A) where
  -- a guarded outcome, by the verdict; an accepted call tells something
  module _ (out : List ℕ) (a : A) (tells : (accepted out).answer ≡ told a) (k : ℕ) where
    refused-by :
        (v : Answer (Unit {0})) → (guarded v out (accepted out)).answer ≡ refused k
        → (v ≡ refused k) × ((guarded v out (accepted out)).out ≡ out)
    refused-by (refused n) e = (ap refused (same_number n k e), refl)
    refused-by (told u) e = absurd (told-refused tells e)

  pub refuses :
      ((room : ℕ) → numbers (conditions room) ≡ order)
      → ((out : List ℕ) → value out ≡ guarded (verdict (conditions (length out))) out (accepted out))
      → ((out : List ℕ) → (a : A) × ((accepted out).answer ≡ told a))
      → Refuses order conditions value
  refuses numbered is tells =
      let of : (out : List ℕ) (k : ℕ) → (value out).answer ≡ refused k
      → (verdict (conditions (length out)) ≡ refused k) × ((value out).out ≡ out) =
      λ out k e.
      let r = refused-by out (tells out).0 (tells out).1 k (verdict (conditions (length out)))
      (ap (λ (o : Outcome A). o.answer) (sym (is out)) ∙ e) in
      (r.0, ap (λ (o : Outcome A). o.out) (is out) ∙ r.1) in
      record {
        in_order = numbered;
        exactly =
            λ out k. (
              λ e. failing (conditions (length out)) k (of out k e).0,
              λ f.
                  ap (λ (o : Outcome A). o.answer) (is out)
                  ∙ ap (λ (v : Answer (Unit {0})). (guarded v out (accepted out)).answer)
                  (failing-refuses (conditions (length out)) k f),
            );
        keeps = λ out k e. (of out k e).1;
      }

module _ {A : Type 0} (order : List ℕ) (conditions : List Condition) (answer : Answer A) (a : A) where
  refused-answer : (k : ℕ) (v : Answer (Unit {0})) → answered v a ≡ refused k → v ≡ refused k
  refused-answer k (refused n) e = ap refused (same_number n k e)
  refused-answer k (told u) e = absurd (told-refused refl e)

  pub refuses-answer :
      numbers conditions ≡ order → answer ≡ answered (verdict conditions) a → RefusesAnswer order conditions answer
  refuses-answer numbered is =
      record {
        in_order = numbered;
        exactly =
            λ k. (
              λ e. failing conditions k (refused-answer k (verdict conditions) (sym is ∙ e)),
              λ f. is ∙ ap (λ (v : Answer (Unit {0})). answered v a) (failing-refuses conditions k f),
            );
      }
