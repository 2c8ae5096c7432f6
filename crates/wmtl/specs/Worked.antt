-- Runs worked through, each named by what it shows.
use Rattle.std.specs.Prelude.{ℕ, List, [], ◌∷◌, ◌++◌, ◌≡◌, All, Option, Some, None, IfSome}
use Prim.Native.String.{String}
use Rattle.gauge.specs.Meaning.{Meaning}
use Rattle.gauge.specs.Plain.{sum, peak}
use Rattle.gauge.specs.Layers.{coarse}
use Rattle.wmtl.specs.Formula.{Window, Formula, mark, not_mark, any, timed, none, more, until, release, eventually, always}
use Rattle.wmtl.specs.Run.{Event, observe, advance, run}
use Rattle.wmtl.specs.Settled.{Verdict, verdict_true, verdict_false, undecided, Settled}
use Rattle.wmtl.specs.Covered.{Covered}
use Rattle.wmtl.specs.Residual.{residual, verdict}
use Rattle.wmtl.specs.Residual as R

-- what a run shows, its gauge, rule and events, and what is expected after them: the verdict, and the number of cells
-- where that is stated
pub record Worked : Type 0 where
  pub shows : String
  pub gauge : Meaning
  pub rule : Formula
  pub events : List Event
  pub expected : Verdict
  pub cells : Option ℕ

-- a worked run by its parts, in this order
abbrev pub worked : String → Meaning → Formula → List Event → Verdict → Option ℕ → Worked
worked shows gauge rule events expected cells =
    record { shows = shows; gauge = gauge; rule = rule; events = events; expected = expected; cells = cells }

-- the window from a to b of clock 0
abbrev pub window : ℕ → ℕ → Window
window a b = record { clock = 0; lower = a; upper = b }

-- an observation of no mark
abbrev pub observe_none : Event
observe_none = observe 0

-- an observation of mark 0
abbrev pub observe_0 : Event
observe_0 = observe 1

-- an observation of mark 1
abbrev pub observe_1 : Event
observe_1 = observe 2

-- an observation of marks 0 and 1
abbrev pub observe_both : Event
observe_both = observe 3

-- an advance of clock 0
abbrev pub advance_by : ℕ → Event
advance_by a = advance (record { clock = 0; amount = a })

-- bounded response: always [0,20] of any(not-mark 0, eventually [0,10] of mark 1)
abbrev pub response : Formula
response =
    timed (always (window 0 20) (any (more (not_mark 0) (more (timed (eventually (window 0 10) (mark 1))) none))))

-- until [3,5] of marks 0 and 1
abbrev pub until_3_to_5 : Formula
until_3_to_5 = timed (until (window 3 5) (mark 0) (mark 1))

-- release [0,5] of marks 0 and 1
abbrev pub release_0_to_5 : Formula
release_0_to_5 = timed (release (window 0 5) (mark 0) (mark 1))

-- eventually [4,9] of mark 0
abbrev pub eventually_4_to_9 : Formula
eventually_4_to_9 = timed (eventually (window 4 9) (mark 0))

-- eventually [0,10] of mark 1
abbrev pub eventually_0_to_10 : Formula
eventually_0_to_10 = timed (eventually (window 0 10) (mark 1))

-- mark 0, mark 1 at the end of its window, and 10 later mark 0 again
abbrev pub two_requests : List Event
two_requests = observe_0 ∷ advance_by 10 ∷ observe_1 ∷ advance_by 10 ∷ observe_0 ∷ []

-- no mark, and then mark 0 after an advance of 3
abbrev pub mark_0_after_3 : List Event
mark_0_after_3 = observe_none ∷ advance_by 3 ∷ observe_0 ∷ []

-- the worked runs, each with what it shows, and then gauge, rule, events, verdict and cells
abbrev pub worked_runs : List Worked
worked_runs =
    worked "a new watch has one cell"
    sum response [] undecided (Some 1)
    ∷ worked "an observation opens an inner window"
    sum response (observe_0 ∷ []) undecided (Some 3)
    ∷ worked "the upper end belongs to the window"
    sum response (observe_0 ∷ advance_by 10 ∷ []) undecided None
    ∷ worked "a deadline passes without an observation"
    sum response (observe_0 ∷ advance_by 11 ∷ []) verdict_false None
    ∷ worked "an inner window closes when it is met"
    sum response (observe_0 ∷ advance_by 10 ∷ observe_1 ∷ []) undecided (Some 1)
    ∷ worked "a later observation opens a new inner window"
    sum response two_requests undecided (Some 3)
    ∷ worked "an outer window ends before an inner one"
    sum response (two_requests ++ (advance_by 1 ∷ [])) undecided (Some 1)
    ∷ worked "an inner window counts from its own opening"
    sum response (two_requests ++ (advance_by 1 ∷ observe_1 ∷ [])) verdict_true None
    ∷ worked "the lower end belongs to the window"
    sum until_3_to_5 (observe_0 ∷ advance_by 3 ∷ observe_1 ∷ []) verdict_true None
    ∷ worked "a right side before the window does not meet an until"
    sum until_3_to_5 (observe_0 ∷ advance_by 2 ∷ observe_1 ∷ []) verdict_false None
    ∷ worked "an until fails once its window is past"
    sum until_3_to_5 (observe_0 ∷ advance_by 6 ∷ []) verdict_false None
    ∷ worked "the left side of a release does not excuse its own instant"
    sum release_0_to_5 (observe_0 ∷ []) verdict_false None
    ∷ worked "both sides at once meet a release"
    sum release_0_to_5 (observe_both ∷ []) verdict_true None
    ∷ worked "a peak before the window decides nothing"
    peak eventually_4_to_9 mark_0_after_3 undecided None
    ∷ worked "a peak inside the window meets an eventually"
    peak eventually_4_to_9 (mark_0_after_3 ++ (advance_by 4 ∷ observe_0 ∷ [])) verdict_true None
    ∷ worked "a coarse gauge drops the fraction"
    (coarse 1000 sum) eventually_0_to_10 (observe_none ∷ advance_by 10999 ∷ []) undecided None
    ∷ worked "a coarse gauge keeps what it does not read"
    (coarse 1000 sum) eventually_0_to_10 (observe_none ∷ advance_by 10999 ∷ advance_by 1 ∷ []) verdict_false None
    ∷ []

-- the verdict that the run settles by its definition, the verdict of the rewriting and its cells are as expected
abbrev pub AsExpected : Worked → Type 0
AsExpected x =
    Settled x.gauge x.rule (run x.events) x.expected
    × (verdict (residual x.gauge x.rule x.events) ≡ x.expected)
    × IfSome x.cells (λ n. R.cells (residual x.gauge x.rule x.events) ≡ n)

-- each of the worked runs is as expected
abbrev pub WorkedRunsAreAsExpected : Type 0
WorkedRunsAreAsExpected = All AsExpected worked_runs

-- ---- what a run covers

-- a check of the definition, both ways: a window that is past with all inside it is covered; one that is still open, one that was
-- never opened, and one with an inner window still open are not
pub record CoveringIsAsExpected : Type 0 where
  pub past : Covered sum until_3_to_5 (run (observe_0 ∷ advance_by 6 ∷ [])) 0
  pub still_open : ¬ Covered sum until_3_to_5 (run (observe_0 ∷ advance_by 5 ∷ observe_1 ∷ [])) 0
  pub unobserved : ¬ Covered sum until_3_to_5 (run (advance_by 6 ∷ [])) 0
  pub inner_past : Covered sum response (run (observe_0 ∷ advance_by 21 ∷ [])) 0
  pub inner_open : ¬ Covered sum response (run (two_requests ++ (advance_by 1 ∷ []))) 0
