use Rattle.std.proofs.Common.{◌+◌, ◌-◌, ◌*◌}
use Rattle.watch.specs.Opening.{reach}
use Rattle.watch.proofs.builder.Builder.+opening.Given as goal

abbrev pub decreases-open : goal.decreases-open
decreases-open g l = 4 * (65 - l.k) + 2

abbrev pub decreases-open_chain : goal.decreases-open_chain
decreases-open_chain g l = 4 * reach l.link + 3

abbrev pub decreases-open_left : goal.decreases-open_left
decreases-open_left g l = 4 * (65 - l.wait.«record»)

abbrev pub decreases-open_waiting : goal.decreases-open_waiting
decreases-open_waiting g l = 4 * (65 - l.wait.«record») + 1
