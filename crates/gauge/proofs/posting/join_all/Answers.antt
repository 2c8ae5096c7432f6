-- The fold is what the amounts come to; the rest is by the laws over lists.
use Rattle.std.proofs.Common.{rules}
use Rattle.gauge.proofs.ListLaws.{joins}
use Rattle.gauge.proofs.posting.join_all.Goals as goal

pub returns : goal.returns
returns g c =
    joins (g.met.G.Gauge.lawful c.args.gauge.now) _ _ _ _ c.ranges.first.fits (λ i. (c.type_inv.rest i).fits) (search rules)
