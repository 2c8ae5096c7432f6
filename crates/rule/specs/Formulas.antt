-- The formula that a rule stands for. Links lead forward, so formulas are made from the last record back.
use Rattle.std.specs.Prelude.{ℕ, ◌+◌, List, take, slice_index_or}
use Rattle.wmtl.specs.Formula.{Window, Formula, mark, not_mark, all, any, next, timed, Operands, none, more, until, release, eventually, always}
use Rattle.rule.specs.declared.kinds.Kind.{Kind}
use Rattle.rule.specs.declared.kinds.Kind.TheVariants.{Mark, NotMark, All, Any, Next, Until, Release, Eventually, Always}
use Rattle.rule.specs.declared.kinds.Record.{Record}
use Rattle.rule.specs.Conditions.{back}

-- the first operand, and those after it; a lawful rule never asks for one that is not there
abbrev pub first_of : Operands → Formula
first_of none = all none
first_of (more f fs) = f

abbrev pub rest_of : Operands → Operands
rest_of none = none
rest_of (more f fs) = fs

-- the window of a record
abbrev pub window_of_record : Record → Window
window_of_record r = record { clock = r.clock; lower = r.lower; upper = r.upper }

-- the formula of a record over its operands
abbrev pub formula_over : Kind → Record → Operands → Formula
formula_over Mark r fs = mark r.mark
formula_over NotMark r fs = not_mark r.mark
formula_over All r fs = all fs
formula_over Any r fs = any fs
formula_over Next r fs = next (first_of fs)
formula_over Until r fs = timed (until (window_of_record r) (first_of fs) (first_of (rest_of fs)))
formula_over Release r fs = timed (release (window_of_record r) (first_of fs) (first_of (rest_of fs)))
formula_over Eventually r fs = timed (eventually (window_of_record r) (first_of fs))
formula_over Always r fs = timed (always (window_of_record r) (first_of fs))

-- for each record, the operands in the chain that begins with it
abbrev pub chains : List Record → List Operands
chains rs = back (λ r down on. more (formula_over r.kind r down) on) none 0 rs

-- the formula of record k of a rule whose last record is `last`
abbrev pub formula_at : List Record → ℕ → ℕ → Formula
formula_at rs last k = first_of (slice_index_or (chains (take (last + 1) rs)) k none)

-- the formula of a rule: that of its root, record 1
abbrev pub formula_of : List Record → ℕ → Formula
formula_of rs last = formula_at rs last 1
