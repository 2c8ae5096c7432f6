use Rattle.std.proofs.Common.{◌≡◌, ◌+◌, ◌*◌, ◌≤◌, drop}
use Rattle.rule.specs.Conditions.{named}
use Rattle.rule.proofs.conditions.named.Given as goal

abbrev pub invariant-loop-r : goal.invariant-loop-r
invariant-loop-r l = (l.n ≤ 2 * l.r-index) × (l.n + named (drop l.r-index l.records) l.k ≡ named l.records l.k)
