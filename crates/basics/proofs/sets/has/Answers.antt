-- `basics::sets::has` meets its contract.
-- The bit at the number's place.
use Rattle.basics.proofs.SetLaws.{member-shift}
use Rattle.basics.proofs.sets.has.Goals as goal

pub returns : goal.returns
returns c = member-shift c.args.r c.args.set
