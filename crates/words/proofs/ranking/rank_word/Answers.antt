-- `words::ranking::rank_word` meets its contract.
use Rattle.std.proofs.Common.{◌≡◌, ℕ, ◌+◌, ◌*◌, ◌/◌, ◌%◌, ◌^◌, get_or, sym, refl, ap, ◌∙◌, ap₂, pow-suc, div-one}
use Rattle.std.proofs.Common.{add-one, arith, rules}
use native.Mathlib.Nat.{div-div-eq-div-mul}
use Rattle.words.specs.Ranking.{rank_pairs, rank_word}
use Rattle.words.proofs.WordDigits.{pair-byte}
use Rattle.words.proofs.ranking.rank_word.Goals as goal

pub loop-j-init : goal.loop-j-init
unfolding rank_pairs
loop-j-init c = (search rules, sym (div-one c.args.word), refl, search rules)

pub loop-j-preserved : goal.loop-j-preserved
unfolding rank_pairs
loop-j-preserved c =
    let a = c.args in
    let j = c.loop-j.j in
    let inv = c.loop-j.invariant in
    let d = c.first_pair.ensures.0 ∙ ap (λ (x : ℕ). x % 256) inv.1 ∙ pair-byte a.word j in (
      search rules,
      ap (λ (x : ℕ). x / 256) inv.1 ∙ div-div-eq-div-mul a.word (256 ^ j) 256
          ∙ ap (λ (x : ℕ). a.word / x) (sym (pow-suc 256 j) ∙ ap (λ (k : ℕ). 256 ^ k) (sym (add-one j))),
      ap₂ ◌+◌ inv.2 (c.weight-rank.ensures.0 ∙ ap (λ (x : ℕ). get_or a.weights.now (256 * j + x) 0) d)
          ∙ ap (λ (k : ℕ). rank_pairs a.weights.now k a.word) (sym (add-one j)),
      search rules,
    )

pub returns : goal.returns
unfolding rank_word
returns c =
    let a = c.args in
    let e : c.loop-j.j ≡ (a.n + 1) / 2 = omega arith in
    c.loop-j.invariant.2 ∙ ap (λ (k : ℕ). rank_pairs a.weights.now k a.word) e
