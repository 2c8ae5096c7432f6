use Rattle.std.proofs.Common.{arith}
use Rattle.watch.proofs.Trees.{light}
use Rattle.watch.proofs.observing.ObservationPass.rewrite_waiting.Goals as goal

pub open_waiting-requires-clause-small : goal.open_waiting-requires-clause-small
open_waiting-requires-clause-small g c =
    let s = c.args.self.now.rule.now in
    omega (arith, light s c.args.wait.«record» c.in-Some.ensures.known.1, c.requires.small)

pub returns-in-Some-clause-count : goal.returns-in-Some-clause-count
returns-in-Some-clause-count g c =
    let s = c.args.self.now.rule.now in
    omega (arith, light s c.args.wait.«record» c.in-Some.ensures.known.1, c.open_waiting.ensures.count)
