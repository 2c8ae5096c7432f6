use Rattle.std.proofs.Common.{◌≡◌, ◌≤◌, length, take, drop}
use Rattle.watch.specs.Seen.{MakesAll}
use Rattle.watch.proofs.monitor.Watch.make_all.Given as goal

abbrev pub invariant-loop-k : goal.invariant-loop-k
invariant-loop-k g l =
    (l.k ≤ length l.calls)
    × (length l.outcomes ≡ length l.initial.outcomes)
    × (drop (length l.calls) l.outcomes ≡ drop (length l.calls) l.initial.outcomes)
    × MakesAll (g.G.Gauge.meaning) l.initial.self (take l.k l.calls) (take l.k l.outcomes) l.self
