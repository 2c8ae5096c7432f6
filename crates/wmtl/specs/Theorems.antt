-- What is proved of the logic; each statement stands on the contract of a function of src/lib.rt.
use Rattle.std.specs.Prelude.{ℕ, ◌<◌, List, ◌++◌, ◌⊎◌, ◌↔◌, ◌≡◌, length}
use Rattle.gauge.specs.Meaning.{Meaning, Lawful, Fits}
use Rattle.wmtl.specs.Formula.{Formula}
use Rattle.wmtl.specs.Run.{Run, Endless, Event, at, run, RunFits, EventsFit, Continues}
use Rattle.wmtl.specs.Holds.{Holds}
use Rattle.wmtl.specs.Settled.{SettledTrue, SettledFalse, Settled}
use Rattle.wmtl.specs.Covered.{Covered}
use Rattle.wmtl.specs.Residual.{Term, is_true, is_false, verdict, NumbersFit, advanced, residual}

-- the residual of a rule is true just where the rule is settled true at its first observation, and false just where it
-- is settled false; so the verdict that it gives is the one that the run settles
pub record Exact (m : Meaning) (f : Formula) (es : List Event) : Type 0 where
  pub when_true : (residual m f es ≡ is_true) ↔ SettledTrue m f (run es) 0
  pub when_false : (residual m f es ≡ is_false) ↔ SettledFalse m f (run es) 0
  pub in_any_case : Settled m f (run es) (verdict (residual m f es))

-- verdicts are exact for every lawful gauge, every rule and all events
abbrev pub VerdictsAreExact : Type 0
VerdictsAreExact = (m : Meaning) → Lawful m → (f : Formula) (es : List Event) → EventsFit es → Exact m f es

-- where the residual is true the rule holds on every continuation, where it is false on none; later events keep both
pub record Final (m : Meaning) (f : Formula) (es : List Event) : Type 0 where
  pub true_holds : residual m f es ≡ is_true → (ω : Endless) → Continues (run es) ω → Holds m f ω 0
  pub false_fails : residual m f es ≡ is_false → (ω : Endless) → Continues (run es) ω → ¬ Holds m f ω 0
  pub true_stays : residual m f es ≡ is_true → (later : List Event) → residual m f (es ++ later) ≡ is_true
  pub false_stays : residual m f es ≡ is_false → (later : List Event) → residual m f (es ++ later) ≡ is_false

-- verdicts are final for every lawful gauge, every rule and all events
abbrev pub VerdictsAreFinal : Type 0
VerdictsAreFinal = (m : Meaning) → Lawful m → (f : Formula) (es : List Event) → EventsFit es → Final m f es

-- where the run covers the rule, the residual is true or false
abbrev pub CoveredRulesAreDecided : Type 0
CoveredRulesAreDecided =
    (m : Meaning) → Lawful m → (f : Formula) (es : List Event) → EventsFit es → Covered m f (run es) 0
    → (residual m f es ≡ is_true) ⊎ (residual m f es ≡ is_false)

-- rewriting a term by two amounts of a clock in turn is rewriting it by the two joined
abbrev pub AdvanceInTwoParts : Type 0
AdvanceInTwoParts =
    (m : Meaning) → Lawful m → (c a b : ℕ) → Fits a → Fits b → (t : Term) → NumbersFit t
    → advanced m (record { clock = c; amount = b }) (advanced m (record { clock = c; amount = a }) t)
    ≡ advanced m (record { clock = c; amount = m.join c a b }) t

-- the numbers inside a residual have 64 bits
abbrev pub ResidualNumbersFit : Type 0
ResidualNumbersFit =
    (m : Meaning) → Lawful m → (f : Formula) (es : List Event) → EventsFit es → NumbersFit (residual m f es)

-- every run so far has a continuation
abbrev pub EveryRunContinues : Type 0
EveryRunContinues = (ρ : Run) → RunFits (at ρ) → (ω : Endless) × Continues ρ ω

-- nothing is settled both ways
abbrev pub SettledOneWay : Type 0
SettledOneWay =
    (m : Meaning) → Lawful m → (f : Formula) (ρ : Run) → RunFits (at ρ) → (i : ℕ)
    → SettledTrue m f ρ i → ¬ SettledFalse m f ρ i

-- nothing is settled where the run so far has no observation
abbrev pub SettledOnlyWhereObserved : Type 0
SettledOnlyWhereObserved =
    (m : Meaning) (f : Formula) (ρ : Run) (i : ℕ) → SettledTrue m f ρ i ⊎ SettledFalse m f ρ i → i < length ρ
