-- The proofs of the theorems that src/ states, by which the check answers each function there.
use Rattle.wmtl.proofs.Theorems.{exact, final, decided, in_two_parts, numbers_fit, continues, one_way, true_observed, false_observed}
use Rattle.wmtl.proofs.Worked.{as_expected, covering}

pub ruleset theorems = (exact, final, decided, in_two_parts, numbers_fit, continues, one_way, true_observed, false_observed, as_expected, covering)
