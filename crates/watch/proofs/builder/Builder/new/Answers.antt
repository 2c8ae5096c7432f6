use Rattle.watch.proofs.Building.{builds_none}
use Rattle.watch.proofs.builder.Builder.new.Goals as goal

pub returns : goal.returns
returns c = λ rule. builds_none rule _ _ c.new.ensures
