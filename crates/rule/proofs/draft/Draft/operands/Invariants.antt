use Rattle.std.proofs.Common.{◌≡◌, ◌+◌, take}
use Rattle.rule.specs.Conditions.{spans, led, operands}
use Rattle.rule.proofs.Back.{Ahead, to_go}
use Rattle.rule.proofs.draft.Draft.operands.Given as goal

abbrev pub invariant-loop-link : goal.invariant-loop-link
invariant-loop-link l =
    (l.n + led 0 (spans (take (l.self.last + 1) l.self.records)) l.link ≡ operands l.self.records l.self.last l.k)
    × Ahead l.self.last l.n l.link

abbrev pub decreases-loop-link : goal.decreases-loop-link
decreases-loop-link l = to_go l.link
