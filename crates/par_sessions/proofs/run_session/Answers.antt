-- `par_sessions::run_session` meets its contract.
-- What is printed is the output of what was read, and so means what is promised.
use mathlib.Core.Path.{sym, subst}
use lib.ListN.{take}
use Rattle.records.proofs.RecordLaws.{written-taken}
use Rattle.par_outputs.specs.Promises.{Means}
use Rattle.par_outputs.proofs.Meaning.{par-means}
use Rattle.par_sessions.proofs.run_session.Goals as goal

pub returns-clause-means : goal.returns-clause-means
returns-clause-means c =
    let run = c.run_within in
    let x = take run.result.read run.new.input in
    subst (Means x) (sym (written-taken run.ensures.written)) (par-means x)
