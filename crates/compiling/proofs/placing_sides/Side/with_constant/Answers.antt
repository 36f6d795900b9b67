-- `compiling::placing_sides::Side::with_constant` meets its contract.
-- The mask and the value each get a digit.
use Rattle.compiling.proofs.TermsPlaced.{constant-more}
use Rattle.compiling.proofs.placing_sides.Side.with_constant.Goals as goal

pub returns : goal.returns
returns c =
    let a = c.args in
    record {
      begun = λ n left side li ln e b.
          rw c.from.ensures (constant-more n left side a.self a.i li ln b a.label e);
    }
