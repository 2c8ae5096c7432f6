-- The fold is what the amounts come to; the rest is by the laws over lists.
use Rattle.std.proofs.Common.{rules}
use Rattle.gauge.proofs.ListLaws.{posted}
use Rattle.gauge.proofs.posting.post_all.Goals as goal

pub returns : goal.returns
returns g c =
    posted (g.met.G.Gauge.lawful c.args.gauge.now) _ _ _ _ c.ranges.total.fits (λ i. (c.type_inv.amounts i).fits) (search rules)
