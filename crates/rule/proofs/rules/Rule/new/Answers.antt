use Rattle.std.proofs.Common.{refl, arith}
use Rattle.rule.proofs.Blank.{blank_at, blank_lawful, blank_bare}
use Rattle.rule.proofs.rules.Rule.new.Goals as goal

pub invariant_of-result : goal.invariant_of-result
invariant_of-result c = record { sized = (omega arith, omega arith); full = refl; lawful = blank_lawful; bare = blank_bare }

pub returns-clause-blank : goal.returns-clause-blank
returns-clause-blank c = blank_at 64
