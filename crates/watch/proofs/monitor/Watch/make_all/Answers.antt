use Rattle.std.proofs.Common.{ℕ, ◌<◌, length, refl, ◌∙◌, arith, length-set}
use Rattle.std.proofs.lemmas.List.{take_more_set, drop-set-lt}
use Rattle.watch.proofs.Made.{makes_more}
use Rattle.watch.proofs.monitor.Watch.make_all.Goals as goal

pub loop-k-preserved : goal.loop-k-preserved
loop-k-preserved g c =
    let k : ℕ = c.loop-k.k in
    let v = c.loop-k.invariant in
    let lc : k < length c.args.calls.now = c.loop-k-test.true in
    let lo : k < length c.loop-k.outcomes = omega (arith, c.requires, v.1) in (
      omega (arith, lc),
      length-set c.loop-k.outcomes k c.make.result ∙ v.1,
      drop-set-lt (length c.args.calls.now) c.loop-k.outcomes k c.make.result lc ∙ v.2,
      makes_more (g.G.Gauge.meaning) _ _ _ c.args.calls.now c.loop-k.outcomes _ k _ _ c.make.result lc refl
          (take_more_set c.loop-k.outcomes k c.make.result lo) v.3 c.make.ensures,
    )
