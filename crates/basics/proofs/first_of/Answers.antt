-- `basics::first_of` meets its contract.
use Rattle.std.proofs.Common.{◌∙◌, ◌+◌, ◌==◌}
use Rattle.std.specs.List.{slice_range}
use Rattle.basics.proofs.Found.{position-find, find-part}
use Rattle.basics.proofs.first_of.Goals as goal

pub returns : goal.returns
returns c =
    let a = c.args in
    c.place_of.ensures
    ∙ position-find (λ byte. byte == a.v) (slice_range a.bytes.now a.at (a.at + a.n))
    ∙ find-part a.bytes.now a.at a.n a.v c.requires
