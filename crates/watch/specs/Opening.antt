-- What an observation makes of the operands of a record.
use Rattle.std.specs.Prelude.{ℕ, ◌+◌, ◌-◌, ◌*◌, take, Some, None, Option}
use Rattle.gauge.specs.Meaning.{Meaning}
use Rattle.wmtl.specs.Formula.{Formula, Operands, none}
use Rattle.wmtl.specs.Residual.{Term, is_true, is_false, fresh_observed, all_observed, any_observed}
use Rattle.rule.specs.declared.rules.Rule.{Rule}
use Rattle.rule.specs.Conditions.{led}
use Rattle.rule.specs.Formulas.{chains}
use Rattle.rule.specs.Rules.{IsRecord, record_in, weight_in}
use Rattle.watch.specs.declared.cells.Operator.{Operator}
use Rattle.watch.specs.declared.cells.Operator.TheVariants.{Both, Either}
use Rattle.watch.specs.Stored.{joined}

-- the constant that changes nothing under an operator
abbrev pub neutral : Operator → Term
neutral Both = is_true
neutral Either = is_false

-- what an observation makes of operands, joined from the right: both over those of all, either over those of any
abbrev pub operands_observed : Operator → Meaning → ℕ → Operands → Term
operands_observed Both m s fs = all_observed m s fs
operands_observed Either m s fs = any_observed m s fs

-- the same of the operands that a link leads to
abbrev pub chain_observed : Operator → Meaning → ℕ → Rule → Option ℕ → Term
chain_observed o m s rule l = operands_observed o m s (led none (chains (take (rule.last + 1) rule.records)) l)

-- what an observation makes of a left side, joined to a term
abbrev pub left_observed : Operator → Meaning → ℕ → Option Formula → Term → Term
left_observed o m s None t = t
left_observed o m s (Some f) t = joined o (fresh_observed m s f) t

-- a link leads to a record of the rule
abbrev pub InRule : Rule → Option ℕ → Type 0
InRule rule None = Unit {0}
InRule rule (Some j) = IsRecord rule j

-- how many records may stand from a link's record on
abbrev pub reach : Option ℕ → ℕ
reach None = 0
reach (Some j) = 65 - j

-- how many cells an observation may add for record k: up to four of its own, and five for each record below it
abbrev pub most_cells : Rule → ℕ → ℕ
most_cells rule k = 4 + 5 * weight_in rule (record_in rule k).first
