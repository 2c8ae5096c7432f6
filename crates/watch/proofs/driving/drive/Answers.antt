use Rattle.std.proofs.Common.{◌≡◌, ℕ, [], length, take, subst, arith}
use Rattle.std.proofs.lemmas.List.{length-take-le}
use Rattle.rule.specs.declared.rules.Rule.{Rule}
use Rattle.rule.specs.Rules.{formula_for}
use Rattle.watch.specs.Promise.{Promise}
use Rattle.watch.proofs.Promised.{promise}
use Rattle.watch.proofs.driving.drive.Goals as goal

pub returns-clause-promise : goal.returns-clause-promise
returns-clause-promise g c =
    let w = c.start-watch.result in
    let e = c.start-watch.ensures in
    let made = c.make_all.ensures.made in
    let calls = take c.min-n.result c.args.calls.now in
    let n : length calls ≡ c.min-n.result = length-take-le c.min-n.result c.args.calls.now (omega (arith, c.min-n.ensures)) in
    subst (λ (r : Rule). Promise (g.G.Gauge.meaning c.args.gauge) (formula_for r) calls (take c.min-n.result c.make_all.new.outcomes)) e.rule
    (subst (λ q. Promise (g.G.Gauge.meaning q) (formula_for w.rule) calls (take c.min-n.result c.make_all.new.outcomes)) e.gauge
    (subst (λ (k : ℕ). Promise (g.G.Gauge.meaning w.gauge) (formula_for w.rule) calls (take k c.make_all.new.outcomes)) n
    (promise (g.G.Gauge.meaning w.gauge) (g.met.G.Gauge.lawful w.gauge) (formula_for w.rule) calls (take (length calls) c.make_all.new.outcomes)
    (made.defined [] e.seen) (made.seen [] e.seen).fits)))
