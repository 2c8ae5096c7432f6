-- The trait's law, carried over lists.
use Rattle.gauge.proofs.ListLaws.{never_falls, joined_is_the_same}
use Rattle.gauge.proofs.posting.posting_laws.Goals as goal

pub returns : goal.returns
returns g c =
    let l = g.met.G.Gauge.lawful c.args.gauge.now in
    record { never_falls = never_falls l; as_joined = joined_is_the_same l }
