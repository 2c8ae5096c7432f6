use Rattle.std.proofs.Common.{ℕ, ◌<◌, ◌≤◌, sym, ap, ◌∙◌, subst}
use Rattle.wmtl.specs.Residual.{waiting}
use Rattle.rule.specs.Formulas.{window_of_record}
use Rattle.watch.proofs.Expiring.{other_clock, not_past, now_past}
use Rattle.watch.proofs.Sided.{window_at}
use Rattle.watch.proofs.advancing.Advance.total_after.Goals as goal

pub returns-then-self-r : goal.returns-then-self-r
returns-then-self-r g c =
    let s = c.args.self.now.rule.now in
    let q = c.in_ok-r.ensures in
    λ t r e. other_clock (g.G.Gauge.meaning c.args.self.now.gauge.now) (record { clock = c.args.self.now.clock; amount = c.args.self.now.amount }) t c.args.wait.total _
    (window_at s c.args.wait.«record» r.1 t e ∙ ap window_of_record (sym q.value)) c.if-self-r.true

pub returns-else-r-read : goal.returns-else-r-read
returns-else-r-read g c =
    let s = c.args.self.now.rule.now in
    let m = g.G.Gauge.meaning c.args.self.now.gauge.now in
    let q = c.in_ok-r.ensures in
    λ t r e.
    not_past m (record { clock = c.args.self.now.clock; amount = c.args.self.now.amount }) t c.args.wait.total _
    (window_at s c.args.wait.«record» r.1 t e ∙ ap window_of_record (sym q.value)) c.if-self-r.false
    (subst (λ (n : ℕ). n ≤ c.in_ok-r.r.upper) (c.read.ensures ∙ ap (λ (x : ℕ). m.read c.args.self.now.clock x) c.add-total.ensures) c.if-r-read.false)
    ∙ ap (λ (x : ℕ). waiting t x) (sym c.add-total.ensures)

pub returns-then-r-read : goal.returns-then-r-read
returns-then-r-read g c =
    let s = c.args.self.now.rule.now in
    let m = g.G.Gauge.meaning c.args.self.now.gauge.now in
    let q = c.in_ok-r.ensures in
    λ t r e.
    now_past m (record { clock = c.args.self.now.clock; amount = c.args.self.now.amount }) t c.args.wait.total _
    (window_at s c.args.wait.«record» r.1 t e ∙ ap window_of_record (sym q.value)) c.if-self-r.false
    (subst (λ (n : ℕ). c.in_ok-r.r.upper < n) (c.read.ensures ∙ ap (λ (x : ℕ). m.read c.args.self.now.clock x) c.add-total.ensures) c.if-r-read.true)
