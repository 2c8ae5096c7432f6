use Rattle.watch.proofs.Seeing.{seen_tells}
use Rattle.watch.proofs.monitor.Watch.report.Goals as goal

pub returns-clause-tells : goal.returns-clause-tells
returns-clause-tells g c = λ es s. seen_tells (g.G.Gauge.meaning) c.args.self.now es (g.met.G.Gauge.lawful c.args.self.now.gauge) s
