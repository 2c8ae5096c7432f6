use Rattle.std.proofs.Common.{length, refl, ap}
use Rattle.watch.proofs.Building.{builds_none}
use Rattle.watch.proofs.builder.Builder.clear.Goals as goal

pub returns : goal.returns
returns c = record { builds = λ rule. builds_none rule _ _ c.clear.ensures; count = refl; depth = ap length c.clear.ensures }
