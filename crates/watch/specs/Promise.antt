-- What is promised of every way of using a new watch: a list of calls, refused ones included, and their outcomes.
use Rattle.std.specs.Prelude.{◌≡◌, ℕ, suc, ◌<◌, ◌≤◌, List, [], ◌∷◌, ◌++◌, length, take, drop, slice_index_or, Ok, Err}
use Rattle.gauge.specs.Meaning.{Meaning, Fits}
use Rattle.wmtl.specs.Formula.{Formula}
use Rattle.wmtl.specs.Run.{Event, Endless, run, Continues}
use Rattle.wmtl.specs.Holds.{Holds}
use Rattle.wmtl.specs.Covered.{Covered}
use Rattle.watch.specs.declared.calls.Call.{Call}
use Rattle.watch.specs.declared.calls.Call.TheVariants.{Advance}
use Rattle.watch.specs.declared.calls.WatchFault.TheVariants.{Clock}
use Rattle.watch.specs.declared.cells.Verdict.{Verdict}
use Rattle.watch.specs.declared.cells.Verdict.TheVariants.{True, False, Undecided}
use Rattle.watch.specs.Calls.{Outcome, after_calls, Outcomes}

-- the outcome is an answer with this verdict
abbrev pub Gives : Outcome → Verdict → Type 0
Gives (Ok a) v = a.verdict ≡ v
Gives (Err w) v = ⊥

-- outcome k
abbrev pub outcome_at : List Outcome → ℕ → Outcome
outcome_at outs k = slice_index_or outs k (Err (Clock 0))

module _ (m : Meaning) (f : Formula) where
  -- the accepted run up to call k, that call included
  abbrev pub up_to : List Call → ℕ → List Event
  up_to calls k = after_calls m f [] (take (suc k) calls)

  -- verdicts are final: after an answer true the rule holds on every continuation of the run so far, after an answer false on
  -- none, and all later answers keep that verdict
  pub record VerdictsFinal (calls : List Call) (outs : List Outcome) : Type 0 where
    pub true_holds : (k : ℕ) → k < length outs → Gives (outcome_at outs k) True
        → (ω : Endless) → Continues (run (up_to calls k)) ω → Holds m f ω 0
    pub false_fails : (k : ℕ) → k < length outs → Gives (outcome_at outs k) False
        → (ω : Endless) → Continues (run (up_to calls k)) ω → Holds m f ω 0 → ⊥
    pub true_kept : (j k : ℕ) → j ≤ k → k < length outs → Gives (outcome_at outs j) True
        → (v : Verdict) → Gives (outcome_at outs k) v → v ≡ True
    pub false_kept : (j k : ℕ) → j ≤ k → k < length outs → Gives (outcome_at outs j) False
        → (v : Verdict) → Gives (outcome_at outs k) v → v ≡ False

  -- a covered rule is decided: where the run so far covers the rule, an answer is true or false
  abbrev pub CoveredDecided : List Call → List Outcome → Type 0
  CoveredDecided calls outs =
      (k : ℕ) → k < length outs → Covered m f (run (up_to calls k)) 0 → Gives (outcome_at outs k) Undecided → ⊥

  -- an advance in two parts changes nothing: against any second list of calls, with the outcomes that are defined for it, that
  -- differs only in that one advance is posted as two parts that join to it, the last part has the outcome of the whole, and
  -- every later call has the same outcome in both
  abbrev pub TwoPartsAlike : List Call → List Outcome → Type 0
  TwoPartsAlike calls outs =
      (before after : List Call) (c a b : ℕ) → Fits a → Fits b
      → calls ≡ before ++ (Advance c (m.join c a b) ∷ after)
      → (outs' : List Outcome) → Outcomes m f [] (before ++ (Advance c a ∷ (Advance c b ∷ after))) outs'
      → drop (length before) outs ≡ drop (suc (length before)) outs'

  -- the whole promise: each outcome is the one that is defined, no other is, and the three laws
  pub record Promise (calls : List Call) (outs : List Outcome) : Type 0 where
    pub defined : Outcomes m f [] calls outs
    pub only : (outs' : List Outcome) → Outcomes m f [] calls outs' → outs ≡ outs'
    pub final : VerdictsFinal calls outs
    pub decided : CoveredDecided calls outs
    pub two_parts : TwoPartsAlike calls outs
