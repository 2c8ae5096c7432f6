use Rattle.std.proofs.Common.{arith}
use Rattle.watch.proofs.Trees.{light}
use Rattle.watch.proofs.observing.ObservationPass.rewrite_fresh.Goals as goal

pub open-requires-clause-small : goal.open-requires-clause-small
open-requires-clause-small g c =
    let s = c.args.self.now.rule.now in
    omega (arith, light s c.args.k (omega (arith, c.last.ensures)), c.requires.small)

pub returns-then-k-last-clause-count : goal.returns-then-k-last-clause-count
returns-then-k-last-clause-count g c =
    let s = c.args.self.now.rule.now in
    omega (arith, light s c.args.k (omega (arith, c.last.ensures)), c.open.ensures.count)
