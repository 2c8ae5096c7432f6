use Rattle.watch.specs.Seen.{meaning_in, watched}
use Rattle.trace.proofs.Finality.{settled_final}
use Rattle.trace.proofs.following.answer_of.Goals as goal

pub returns-clause-lasts : goal.returns-clause-lasts
returns-clause-lasts g c = λ es s.
    let w = c.args.watch.now in
    settled_final (meaning_in (g.G.Gauge.meaning) w) (g.met.G.Gauge.lawful w.gauge) (watched (g.G.Gauge.meaning) w) es s.fits
    c.report-verdict.result.verdict (c.report-verdict.ensures.tells es s).settles
