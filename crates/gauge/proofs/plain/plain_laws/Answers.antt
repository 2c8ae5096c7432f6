-- The two facts on sets are lemmas.
use Rattle.gauge.specs.Union.{ones_or_le, or_assoc}
use Rattle.gauge.proofs.plain.plain_laws.Goals as goal

pub returns-clause-union_associative : goal.returns-clause-union_associative
returns-clause-union_associative c = or_assoc

pub returns-clause-count_never_falls : goal.returns-clause-count_never_falls
returns-clause-count_never_falls c = ones_or_le
