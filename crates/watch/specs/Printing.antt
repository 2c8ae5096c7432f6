-- What is printed of the types of this crate.
use Rattle.std.specs.Prelude.{ℕ, List, codes}
use Rattle.watch.specs.declared.cells.Verdict.{Verdict}
use Rattle.watch.specs.declared.cells.Verdict.TheVariants.{True, False, Undecided}

-- a verdict's name
abbrev pub verdict_name : Verdict → List ℕ
verdict_name True = codes "true"
verdict_name False = codes "false"
verdict_name Undecided = codes "undecided"
