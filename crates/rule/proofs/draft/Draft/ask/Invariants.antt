use Rattle.std.proofs.Common.{◌≡◌, ℕ, ◌<◌, true}
use Rattle.rule.specs.Conditions.{holds}
use Rattle.rule.proofs.draft.Draft.ask.Given as goal

abbrev pub invariant-loop-record : goal.invariant-loop-record
invariant-loop-record l = (j : ℕ) → j < l.record → holds l.condition l.self.records l.self.last j ≡ true
