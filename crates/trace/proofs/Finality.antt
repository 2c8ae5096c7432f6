-- A settled verdict is final.
use Rattle.std.proofs.Common.{List}
use Rattle.gauge.specs.Meaning.{Meaning, Lawful}
use Rattle.wmtl.specs.Formula.{Formula}
use Rattle.wmtl.specs.Run.{Event, run, EventsFit}
use Rattle.wmtl.specs.Settled.{Settled}
use Rattle.wmtl.proofs.Theorems.{exact, final}
use Rattle.watch.specs.declared.cells.Verdict.{Verdict}
use Rattle.watch.specs.declared.cells.Verdict.TheVariants.{True, False, Undecided}
use Rattle.watch.specs.Calls.{meant}
use Rattle.trace.specs.Following.{FinalAfter}

module _ (m : Meaning) (law : Lawful m) (f : Formula) where
  pub settled_final : (es : List Event) → EventsFit es → (v : Verdict) → Settled m f (run es) (meant v) → FinalAfter m f es v
  settled_final es fit True s = (final m law f es fit).true_holds ((exact m law f es fit).when_true.1 s)
  settled_final es fit False s = (final m law f es fit).false_fails ((exact m law f es fit).when_false.1 s)
  settled_final es fit Undecided s = tt
