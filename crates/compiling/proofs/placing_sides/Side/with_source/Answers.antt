-- `compiling::placing_sides::Side::with_source` meets its contract.
-- Each way out is one case of a source: the term's own position, or another one.
use Rattle.compiling.proofs.TermsPlaced.{kept_more, move-more}
use Rattle.compiling.proofs.placing_sides.Side.with_source.Goals as goal

pub returns-then-from-i : goal.returns-then-from-i
returns-then-from-i c =
    let a = c.args in
    record {
      begun = λ n left side li ln lf source b.
          kept_more n left side a.self a.i li ln b a.from source c.if-from-i.true;
    }

pub returns-else-from-i : goal.returns-else-from-i
returns-else-from-i c =
    let a = c.args in
    record {
      begun = λ n left side li ln lf source b.
          move-more n left side a.self a.i li ln b a.from source lf;
    }
