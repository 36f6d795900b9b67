-- Each call has fewer steps left or, with as many, a lesser set of rules; a visit comes before its extensions, and
-- they come before the one that is next. A set is a number below 2 to the power 64, so a step less, at 2 to the power
-- 67, outweighs every set.
use Rattle.std.proofs.Common.{◌+◌, ◌*◌, ◌-◌}
use Rattle.search.proofs.visiting.+extend_take_up_visit.Given as goal

abbrev pub decreases-extend : goal.decreases-extend
decreases-extend l = 147573952589676412928 * (l.run.now.steps - l.depth) + 2 * l.rest + 1

abbrev pub decreases-take_up : goal.decreases-take_up
decreases-take_up l = 147573952589676412928 * (l.run.now.steps - l.depth) + 2 * l.left

abbrev pub decreases-visit : goal.decreases-visit
decreases-visit l = 147573952589676412928 * (l.run.now.steps - l.depth) + 73786976294838206464
