use Rattle.std.proofs.Common.{◌≡◌, ◌*◌, ◌≤◌, drop}
use Rattle.std.specs.Slice.Iter.{chunks_exact_rest, chunks_exact_size}
use Rattle.trace.proofs.Carrying.{Reaches}
use Rattle.trace.proofs.following.follow.Given as goal

abbrev pub invariant-loop-k : goal.invariant-loop-k
invariant-loop-k g l =
    (chunks_exact_size l.k-iterator.iter ≡ 16)
    × (chunks_exact_rest l.k-iterator.iter ≡ drop (16 * l.k-iterator.count) l.fn.trace)
    × (l.k-iterator.count ≤ l.records)
    × Reaches (g.G.Gauge.meaning) l.initial.watch l.fn.trace l.k-iterator.count l.watch
