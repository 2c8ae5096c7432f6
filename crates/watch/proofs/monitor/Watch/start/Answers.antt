use Rattle.std.proofs.Common.{refl, arith}
use Rattle.watch.specs.Stored.{stores_fresh}
use Rattle.watch.proofs.monitor.Watch.start.Goals as goal

pub returns-clause-seen : goal.returns-clause-seen
returns-clause-seen g c = record { stores = stores_fresh (omega arith, c.args.rule.sized.0); tells = refl; fits = tt }
