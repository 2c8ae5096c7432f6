-- A record with a window, by its parts: until and release have a left side, eventually and always have none.
use Rattle.std.specs.Prelude.{◌≡◌, ℕ, suc, ◌+◌, ◌<◌, ◌≤◌, IfSome, Some, None, Option}
use Rattle.std.specs.Option.{option_map}
use Rattle.wmtl.specs.Formula.{Window, Formula, Timed, timed, until, release, eventually, always}
use Rattle.rule.specs.declared.kinds.Record.{Record}
use Rattle.rule.specs.declared.rules.Rule.{Rule}
use Rattle.rule.specs.Rules.{IsRecord, record_in, formula_in, weight_in}
use Rattle.watch.specs.declared.cells.Operator.{Operator}
use Rattle.watch.specs.declared.cells.Operator.TheVariants.{Both, Either}
use Rattle.watch.specs.declared.windows.Windowed.{Windowed}

-- the other operator
abbrev pub dual : Operator → Operator
dual Both = Either
dual Either = Both

-- the formula that joins its left side by this operator: until and eventually by both, release and always by either
abbrev pub timed_by : Operator → Window → Option Formula → Formula → Timed
timed_by Both w (Some l) r = until w l r
timed_by Both w None r = eventually w r
timed_by Either w (Some l) r = release w l r
timed_by Either w None r = always w r

-- the window of a record with a window
abbrev pub window_in : Windowed → Window
window_in x = record { clock = x.clock; lower = x.lower; upper = x.upper }

-- the formula of a record with a window, over the records of its sides
abbrev pub timed_of : Rule → Windowed → Timed
timed_of rule x = timed_by x.inner (window_in x) (option_map (formula_in rule) x.left) (formula_in rule x.right)

-- how many records a record has, those below it included
abbrev pub own_weight : Rule → ℕ → ℕ
own_weight rule k = suc (weight_in rule (record_in rule k).first)

abbrev pub left_weight : Rule → Option ℕ → ℕ
left_weight rule None = 0
left_weight rule (Some j) = own_weight rule j

-- the parts of a record with this operator and these sides
abbrev pub parts : Record → Operator → Option ℕ → ℕ → Windowed
parts r o left right = record { inner = o; clock = r.clock; lower = r.lower; upper = r.upper; left = left; right = right }

-- the sides of record k stand behind it in the rule, and below it in the tree
pub record Sides (rule : Rule) (k : ℕ) (x : Windowed) : Type 0 where
  pub right_behind : (k < x.right) × (x.right ≤ rule.last)
  pub left_behind : IfSome x.left (λ j. (k < j) × (j ≤ rule.last))
  pub weigh : left_weight rule x.left + own_weight rule x.right ≤ weight_in rule (record_in rule k).first

-- x is record k of a rule, taken apart
pub record IsWindowed (rule : Rule) (k : ℕ) (x : Windowed) : Type 0 where
  pub known : IsRecord rule k
  pub shape : formula_in rule k ≡ timed (timed_of rule x)
  pub sides : Sides rule k x
