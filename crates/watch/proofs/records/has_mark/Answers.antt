use Rattle.std.proofs.Common.{refl}
use Rattle.wmtl.specs.Run.{has}
use Rattle.watch.proofs.records.has_mark.Goals as goal

pub returns : goal.returns
unfolding has
returns c = refl
