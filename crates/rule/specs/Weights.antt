-- How many records a part of a rule has.
use Rattle.std.specs.Prelude.{ℕ, suc, ◌+◌, List, take, Option}
use Rattle.rule.specs.declared.kinds.Record.{Record}
use Rattle.rule.specs.Conditions.{back, led}

-- for each record, how many records stand in the chain that begins with it, those below them included
abbrev pub weights : List Record → List ℕ
weights rs = back (λ r down on. suc (down + on)) 0 0 rs

-- the same of what a link leads to, in a rule whose last record is `last`
abbrev pub weight_of : List Record → ℕ → Option ℕ → ℕ
weight_of rs last l = led 0 (weights (take (last + 1) rs)) l
