use Rattle.std.proofs.Common.{◌≤◌, length}
use Rattle.rulewatch.proofs.read_source.Given as goal

abbrev pub invariant-loop-source : goal.invariant-loop-source
invariant-loop-source g l = length l.rest ≤ length l.initial.rest

abbrev pub decreases-loop-source : goal.decreases-loop-source
decreases-loop-source g l = length l.rest
