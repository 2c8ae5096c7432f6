-- What a rule stands for: its records and its last record's number taken together.
use Rattle.std.specs.Prelude.{ℕ, ◌≤◌, Option}
use Rattle.wmtl.specs.Formula.{Formula}
use Rattle.rule.specs.declared.kinds.Record.{Record}
use Rattle.rule.specs.declared.rules.Rule.{Rule}
use Rattle.rule.specs.Conditions.{at}
use Rattle.rule.specs.Formulas.{formula_at, formula_of}
use Rattle.rule.specs.Weights.{weight_of}

-- k is the number of a record of a rule
abbrev pub IsRecord : Rule → ℕ → Type 0
IsRecord rule k = (1 ≤ k) × (k ≤ rule.last)

-- record k of a rule
abbrev pub record_in : Rule → ℕ → Record
record_in rule k = at rule.records k

-- the formula of record k of a rule
abbrev pub formula_in : Rule → ℕ → Formula
formula_in rule k = formula_at rule.records rule.last k

-- the formula of a rule: that of its root
abbrev pub formula_for : Rule → Formula
formula_for rule = formula_of rule.records rule.last

-- how many records stand in the chain that a link leads to, those below them included
abbrev pub weight_in : Rule → Option ℕ → ℕ
weight_in rule l = weight_of rule.records rule.last l
