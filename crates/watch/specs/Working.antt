-- What the working memory of a pass holds.
use Rattle.std.specs.Prelude.{◌≡◌, ℕ, ◌<◌, List, ◌∷◌, ◌++◌, length, slice_index_or}
use Rattle.wmtl.specs.Residual.{Term}
use Rattle.rule.specs.declared.rules.Rule.{Rule}
use Rattle.watch.specs.declared.builder.Builder.{Builder}
use Rattle.watch.specs.declared.cells.Cell.{Cell}
use Rattle.watch.specs.declared.cells.Cell.TheVariants.{Fresh}
use Rattle.watch.specs.declared.cells.Entry.{Entry}
use Rattle.watch.specs.declared.cells.Operator.{Operator}
use Rattle.watch.specs.declared.cells.Operator.TheVariants.{Both, Either}
use Rattle.watch.specs.declared.cells.Simplified.{Simplified}
use Rattle.watch.specs.declared.cells.Simplified.TheVariants.{Absorbed, Left, Right, Joined}
use Rattle.watch.specs.declared.cells.Verdict.{Verdict}
use Rattle.watch.specs.declared.cells.Verdict.TheVariants.{True, False, Undecided}
use Rattle.watch.specs.Stored.{Stores, Stack, told}

-- what comes of two terms under an operator, by their verdicts
abbrev pub simplify : Operator → Verdict → Verdict → Simplified
simplify Both True v = Right
simplify Both False v = Absorbed
simplify Both Undecided True = Left
simplify Both Undecided False = Absorbed
simplify Both Undecided Undecided = Joined
simplify Either True v = Absorbed
simplify Either False v = Right
simplify Either Undecided True = Absorbed
simplify Either Undecided False = Left
simplify Either Undecided Undecided = Joined

-- the first `count` cells of a row are those of a list, but for the ones that have no place
pub record Held (cells : List Cell) (count : ℕ) (all : List Cell) : Type 0 where
  pub counted : count ≡ length all
  pub stored : (k : ℕ) → k < 1024 → k < count → slice_index_or cells k (Fresh 0) ≡ slice_index_or all k (Fresh 0)

-- a term with a verdict lies on top of other cells
pub record OnTop (rule : Rule) (cells : List Cell) (count : ℕ) (below : List Cell) (v : Verdict) (t : Term) : Type 0 where
  pub own : List Cell
  pub stores : Stores rule own t
  pub held : Held cells count (below ++ own)
  pub tells : v ≡ told t

-- cells and entries hold a stack of terms, but for the cells that have no place
pub record StackIn (rule : Rule) (cells : List Cell) (count : ℕ) (entries : List Entry) (ts : List Term) : Type 0 where
  pub all : List Cell
  pub stack : Stack rule all entries ts
  pub held : Held cells count all

-- the builder holds a stack of terms
abbrev pub Builds : Rule → Builder → List Term → Type 0
Builds rule b ts = StackIn rule b.cells b.count b.entries.items ts

-- a stack of terms has one term more on top
abbrev pub Puts : Rule → Builder → Builder → Term → Type 0
Puts rule old new t = (ts : List Term) → Builds rule old ts → Builds rule new (t ∷ ts)
