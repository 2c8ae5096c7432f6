use Rattle.std.proofs.Common.{◌≡◌, ◌≤◌}
use Rattle.rule.proofs.Refusing.{asked, KeptUpTo}
use Rattle.rule.proofs.rules.Rule.read.Given as goal

abbrev pub invariant-loop-condition : goal.invariant-loop-condition
invariant-loop-condition l =
    (l.condition-items ≡ asked) × (l.condition-index ≤ 4) × KeptUpTo l.draft.records l.draft.last l.condition-index
