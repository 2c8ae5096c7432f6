-- The worked runs, by computation; what the run settles by its definition follows from the rewriting.
use mathlib.Core.List.{[], ◌∷◌}
use mathlib.Core.Path.{◌≡◌, refl, subst}
use borrow.Author.Tests.{clash}
use mathlib.Core.Bool.{false}
use native.Mathlib.Omega.{arith}
use Prim.Native.Nat.{ℕ, zero, suc, ◌<◌}
use lib.Dec.{lit<, lit≤}
use Rattle.std.specs.Option.{IfSome}
use Rattle.std.proofs.lemmas.List.Elements.{All-weaker, All-from_recursion}
use Rattle.gauge.specs.Meaning.{Lawful}
use Rattle.gauge.specs.Plain.{sum}
use Rattle.wmtl.specs.Formula.{Formula, mark, not_mark, any, more, none, timed, eventually}
use Rattle.wmtl.specs.Run.{Run, EventsFit, at, run, has, past_window}
use Rattle.wmtl.specs.Covered.{Covered}
use Rattle.wmtl.specs.Settled.{Settled}
use Rattle.wmtl.specs.Residual.{residual, verdict, cells}
use Rattle.wmtl.specs.Worked.{Worked, AsExpected, worked_runs, WorkedRunsAreAsExpected, CoveringIsAsExpected, window, observe_0, advance_by}
use Rattle.wmtl.proofs.Theorems.{exact}
use Rattle.gauge.specs.PlainLaws.{sum_lawful, peak_lawful}
use Rattle.wmtl.proofs.Gauges.{coarse_sum_lawful}

-- what is computed of a worked run
abbrev Computed : Worked → Type 0
Computed x =
    Lawful x.gauge
    × EventsFit x.events
    × (verdict (residual x.gauge x.rule x.events) ≡ x.expected)
    × IfSome x.cells (λ n. cells (residual x.gauge x.rule x.events) ≡ n)

expected : (x : Worked) → Computed x → AsExpected x
expected x c =
    let s = (exact x.gauge c.0 x.rule x.events c.1).in_any_case in
    (subst (Settled x.gauge x.rule (run x.events)) c.2 s, c.2, c.3)

infixr 20 ◌and◌
◌and◌ : {A B : Type 0} → A → B → A × B
a and b = (a, b)

pub as_expected : WorkedRunsAreAsExpected
unfolding has
as_expected =
    All-weaker Computed AsExpected expected worked_runs
    (All-from_recursion Computed worked_runs
    ((sum_lawful, tt, refl, refl)
    and (sum_lawful, tt, refl, refl)
    and (sum_lawful, (lit< tt, tt), refl, tt)
    and (sum_lawful, (lit< tt, tt), refl, tt)
    and (sum_lawful, (lit< tt, tt), refl, refl)
    and (sum_lawful, (lit< tt, (lit< tt, tt)), refl, refl)
    and (sum_lawful, (lit< tt, (lit< tt, (lit< tt, tt))), refl, refl)
    and (sum_lawful, (lit< tt, (lit< tt, (lit< tt, tt))), refl, tt)
    and (sum_lawful, (lit< tt, tt), refl, tt)
    and (sum_lawful, (lit< tt, tt), refl, tt)
    and (sum_lawful, (lit< tt, tt), refl, tt)
    and (sum_lawful, tt, refl, tt)
    and (sum_lawful, tt, refl, tt)
    and (peak_lawful, (lit< tt, tt), refl, tt)
    and (peak_lawful, (lit< tt, (lit< tt, tt)), refl, tt)
    and (coarse_sum_lawful, (lit< tt, tt), refl, tt)
    and (coarse_sum_lawful, (lit< tt, (lit< tt, tt)), refl, tt)
    and tt))

-- what holds of the first observation holds of each, where there is only one
only_first : (P : ℕ → Type 0) → P 0 → (j : ℕ) → j < 1 → P j
only_first P h zero lt = h
only_first P h (suc j) lt = absurd (omega arith)

pub covering : CoveringIsAsExpected
covering =
    record {
      past = (lit< tt, (refl, λ j le lt not_past. (lt, lt)));
      still_open = λ h. clash h.1.0;
      unobserved = λ h. let z = h.0 in omega arith;
      inner_past = (
        lit< tt,
        (
          refl,
          λ j le lt. only_first (λ k. past_window sum (window 0 20) (at inner) 0 k ≡ false → Covered sum inner_rule inner k)
              (λ _. (lit< tt, (lit< tt, ((lit< tt, (refl, λ j le lt not_past. lt)), tt)))) j lt,
        ),
      );
      inner_open = λ h. clash (h.1.1 2 (lit≤ tt) (lit< tt) refl).1.1.0.1.0;
    }
  where
    inner : Run
    inner = run (observe_0 ∷ advance_by 21 ∷ [])

    inner_rule : Formula
    inner_rule = any (more (not_mark 0) (more (timed (eventually (window 0 10) (mark 1))) none))
