use Rattle.std.proofs.Common.{◌≡◌, ℕ, ◌≤◌, false, leb, List, [], ◌∷◌, ◌++◌, sym, refl, ap, ◌∙◌, arith, le-leb}
use borrow.Author.Tests.{lt-leb}
use Rattle.wmtl.specs.Run.{Event, observe}
use Rattle.wmtl.specs.Residual.{cells}
use Rattle.watch.specs.Seen.{Seen, watched}
use Rattle.watch.specs.Calls.{cells_after}
use Rattle.watch.proofs.Seeing.{seen_settled, seen_more, count_is, one_more, same_watch, few_cells, makes, refuses}
use Rattle.watch.proofs.monitor.Watch.observe.Goals as goal

pub returns-in_default-clause-makes : goal.returns-in_default-clause-makes
returns-in_default-clause-makes g c =
    let w = c.args.self.now in
    let next : (es : List Event) → Seen (g.G.Gauge.meaning) w es → Seen (g.G.Gauge.meaning) w (es ++ observe c.args.marks ∷ []) =
    λ es s. seen_settled (g.G.Gauge.meaning) w es _ c.in_default.not-Undecided tt s in
    makes (g.G.Gauge.meaning) w w _ _ (g.met.G.Gauge.lawful w.gauge) refl refl c.report.ensures.value
    (λ es s. le-leb _ 1024 (few_cells (g.G.Gauge.meaning) w _ (next es s))) next

pub returns-then-self-gt-MOST_CELLS-clause-makes : goal.returns-then-self-gt-MOST_CELLS-clause-makes
returns-then-self-gt-MOST_CELLS-clause-makes g c =
    let w = c.args.self.now in
    let m = g.G.Gauge.meaning w.gauge in
    let b = c.rewrite.new.self in
    let e : Event = observe c.args.marks in
    let f = watched (g.G.Gauge.meaning) w in
    let count : (es : List Event) → Seen (g.G.Gauge.meaning) w es → b.count ≡ cells_after m f (es ++ e ∷ []) =
    λ es s. count_is m w.rule b _ (c.rewrite.ensures.builds _ (sym s.tells ∙ c.in-Undecided.is) s.stores)
    ∙ ap cells (sym (one_more m w.rule es e)) in
    let no : (es : List Event) → Seen (g.G.Gauge.meaning) w es → leb (cells_after m f (es ++ e ∷ [])) 1024 ≡ false =
    λ es s. lt-leb _ 1024 (omega (arith, count es s, c.if-self-gt-MOST_CELLS.true)) in
    refuses (g.G.Gauge.meaning) w _ _ _ refl refl (λ es s. record { stores = s.stores; tells = s.tells; fits = s.fits })
    (λ es s. (no es s, ap (λ (n : ℕ). record { number = 9; value = n }) (count es s)))

pub returns-clause-makes : goal.returns-clause-makes
returns-clause-makes g c =
    let w = c.args.self.now in
    let v = c.take_over.new.self in
    let t = c.take_over.ensures in
    let next : (es : List Event) → Seen (g.G.Gauge.meaning) w es → Seen (g.G.Gauge.meaning) v (es ++ observe c.args.marks ∷ []) =
    λ es s. seen_more (g.G.Gauge.meaning) w v c.rewrite.new.self es _ t.rule t.gauge
    (c.rewrite.ensures.builds _ (sym s.tells ∙ c.in-Undecided.is) s.stores) c.if-self-gt-MOST_CELLS.false t.cells t.len t.verdict s.fits tt in
    makes (g.G.Gauge.meaning) w v _ _ (g.met.G.Gauge.lawful v.gauge) t.rule t.gauge c.report-2.ensures.value
    (λ es s. le-leb _ 1024
    (same_watch (g.G.Gauge.meaning) w v t.rule t.gauge (λ m f. cells_after m f (es ++ observe c.args.marks ∷ []) ≤ 1024)
    (few_cells (g.G.Gauge.meaning) v _ (next es s)))) next
