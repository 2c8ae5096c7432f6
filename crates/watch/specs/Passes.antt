-- One pass over stored cells, from the first to the last, with a stack of terms.
use Rattle.std.specs.Prelude.{◌≡◌, ℕ, List, [], ◌∷◌}
use Rattle.wmtl.specs.Formula.{Formula, Timed, timed, mark, not_mark, all, any, next}
use Rattle.wmtl.specs.Run.{Advance}
use Rattle.wmtl.specs.Residual.{Term, is_false, fresh, waiting}
use Rattle.rule.specs.declared.rules.Rule.{Rule}
use Rattle.rule.specs.Rules.{IsRecord, formula_in}
use Rattle.watch.specs.declared.cells.Cell.{Cell}
use Rattle.watch.specs.declared.cells.Cell.TheVariants.{Fresh, Waiting, Pair}
use Rattle.watch.specs.declared.cells.Operator.{Operator}
use Rattle.watch.specs.Stored.{joined, paired}

-- a formula with a window, waiting; a stored term has no other
abbrev pub waiting_of : Formula → ℕ → Term
waiting_of (timed t) x = waiting t x
waiting_of (mark k) x = is_false
waiting_of (not_mark k) x = is_false
waiting_of (all fs) x = is_false
waiting_of (any fs) x = is_false
waiting_of (next f) x = is_false

-- an amount posted on a clock
abbrev pub posted : ℕ → ℕ → Advance
posted clock amount = record { clock = clock; amount = amount }

-- a rewriting goes from the leaves up
abbrev pub Upward : (Term → Term) → Type 0
Upward g = (o : Operator) (t u : Term) → g (paired o t u) ≡ joined o (g t) (g u)

module _ (rule : Rule) where
  -- a cell that can stand in a stored term
  abbrev pub Good : Cell → Type 0
  Good (Fresh k) = IsRecord rule k
  Good (Waiting w) = (IsRecord rule w.«record») × ((t : Timed) × (formula_in rule w.«record» ≡ timed t))
  Good (Pair o) = Unit {0}

  -- what a cell does to the stack: a fresh or waiting one puts what the rewriting g makes of it on top, a pair joins the two on top
  abbrev pub step : (Term → Term) → Cell → List Term → List Term
  step g (Fresh k) ts = g (fresh (formula_in rule k)) ∷ ts
  step g (Waiting w) ts = g (waiting_of (formula_in rule w.«record») w.total) ∷ ts
  step g (Pair o) [] = []
  step g (Pair o) (t ∷ []) = t ∷ []
  step g (Pair o) (t ∷ (u ∷ ts)) = joined o t u ∷ ts

  -- what the cells do to it, one after the other
  abbrev pub passed : (Term → Term) → List Cell → List Term → List Term
  passed g [] ts = ts
  passed g (c ∷ cs) ts = passed g cs (step g c ts)
