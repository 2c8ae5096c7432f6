use Rattle.std.proofs.Common.{◌*◌, ◌≤◌, length, take, sym, refl, ◌∙◌, arith, le-leb}
use Rattle.std.proofs.lemmas.List.{length-take-le}
use Rattle.watch.proofs.Seeing.{seen_settled, seen_more, makes}
use Rattle.watch.proofs.monitor.Watch.advance.Goals as goal

pub returns-in_default-clause-makes : goal.returns-in_default-clause-makes
returns-in_default-clause-makes g c =
    let w = c.args.self.now in
    let fit = c.ranges.amount in
    makes (g.G.Gauge.meaning) w w _ _ (g.met.G.Gauge.lawful w.gauge) refl refl c.report.ensures.value
    (λ es s. le-leb c.args.clock 7 c.if-clock-gt-LAST_CLOCK.false)
    (λ es s. seen_settled (g.G.Gauge.meaning) w es _ c.in_default.not-Undecided (omega arith, tt) s)

pub returns-clause-makes : goal.returns-clause-makes
returns-clause-makes g c =
    let w = c.args.self.now in
    let v = c.take_over.new.self in
    let t = c.take_over.ensures in
    let fit = c.ranges.amount in
    let within : w.len ≤ length w.cells = omega (arith, w.short, w.wide) in
    let count : c.rewrite.new.self.count ≤ 1 * length (take w.len w.cells) = c.rewrite.ensures.count in
    let few : c.rewrite.new.self.count ≤ 1024 = omega (arith, count, length-take-le w.len w.cells within, w.short) in
    makes (g.G.Gauge.meaning) w v _ _ (g.met.G.Gauge.lawful v.gauge) t.rule t.gauge c.report-2.ensures.value
    (λ es s. le-leb c.args.clock 7 c.if-clock-gt-LAST_CLOCK.false)
    (λ es s. seen_more (g.G.Gauge.meaning) w v c.rewrite.new.self es _ t.rule t.gauge
    (c.rewrite.ensures.builds _ (sym s.tells ∙ c.in-Undecided.is) s.stores) few t.cells t.len t.verdict s.fits (omega arith, tt))
