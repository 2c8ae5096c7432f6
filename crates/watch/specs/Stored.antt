-- How a residual term is stored as cells: the right part, the left part, and then what joins them.
use Rattle.std.specs.Prelude.{◌≡◌, ℕ, List, [], ◌∷◌, ◌++◌, length}
use Rattle.wmtl.specs.Formula.{Timed, timed}
use Rattle.wmtl.specs.Settled as logic
use Rattle.wmtl.specs.Residual.{Term, is_true, is_false, fresh, waiting, both, either, both_of, either_of, verdict}
use Rattle.rule.specs.declared.rules.Rule.{Rule}
use Rattle.rule.specs.Rules.{IsRecord, formula_in}
use Rattle.watch.specs.declared.cells.Cell.{Cell}
use Rattle.watch.specs.declared.cells.Cell.TheVariants.{Fresh, Waiting, Pair}
use Rattle.watch.specs.declared.cells.Entry.{Entry}
use Rattle.watch.specs.declared.cells.Operator.{Operator}
use Rattle.watch.specs.declared.cells.Operator.TheVariants.{Both, Either}
use Rattle.watch.specs.declared.cells.Verdict.{Verdict}
use Rattle.watch.specs.declared.cells.Verdict.TheVariants.{True, False, Undecided}

-- a verdict of the logic, as the code has it
abbrev pub coded : logic.Verdict → Verdict
coded logic.verdict_true = True
coded logic.verdict_false = False
coded logic.undecided = Undecided

-- the verdict that a term gives
abbrev pub told : Term → Verdict
told t = coded (verdict t)

-- two terms joined as they are, and joined with simplifying
abbrev pub paired : Operator → Term → Term → Term
paired Both t u = both t u
paired Either t u = either t u

abbrev pub joined : Operator → Term → Term → Term
joined Both t u = both_of t u
joined Either t u = either_of t u

-- the constant that absorbs every other term under an operator: false under both, true under either
abbrev pub absorbing : Operator → Term
absorbing Both = is_false
absorbing Either = is_true

-- the cells of a term over the records of a rule: true and false have none, a waiting formula's record is one with a window
pub data Stores (rule : Rule) : List Cell → Term → Type 0 where
  stores_true : Stores rule [] is_true
  stores_false : Stores rule [] is_false
  stores_fresh : {k : ℕ} → IsRecord rule k → Stores rule (Fresh k ∷ []) (fresh (formula_in rule k))
  stores_waiting : {k x : ℕ} {t : Timed} → IsRecord rule k → formula_in rule k ≡ timed t
      → Stores rule (Waiting (record { «record» = k; total = x }) ∷ []) (waiting t x)
  stores_pair : {xs ys : List Cell} {t u : Term} → (o : Operator) → Stores rule xs t → Stores rule ys u
      → told t ≡ Undecided → told u ≡ Undecided → Stores rule (ys ++ (xs ++ Pair o ∷ [])) (paired o t u)

-- a stack of terms, its top first: their cells lie one behind the other, and each has an entry with its start and verdict
pub data Stack (rule : Rule) : List Cell → List Entry → List Term → Type 0 where
  empty : Stack rule [] [] []
  push : {all cs : List Cell} {es : List Entry} {ts : List Term} {t : Term} → Stack rule all es ts → Stores rule cs t
      → Stack rule (all ++ cs) (es ++ (record { start = length all; verdict = told t } ∷ [])) (t ∷ ts)
