-- The theorems.
use Prim.Native.Nat.{ℕ, ◌<◌}
use mathlib.Core.Bool.{true, false}
use mathlib.Core.List.{List, [], ◌∷◌, ◌++◌, append-nil}
use mathlib.Core.Logic.Iff
use mathlib.Core.Logic.{◌↔◌}
use mathlib.Core.Path.{◌≡◌, refl, sym, ◌∙◌, ap, subst}
use lib.ListN.{length}
use Rattle.std.proofs.Math.Logic.{⊎_map}
use Rattle.gauge.specs.Meaning.{Meaning, Lawful}
use Rattle.wmtl.specs.Formula.{Formula, mark, not_mark, all, any, next, timed}
use Rattle.wmtl.specs.Run.{Run, Event, observe, advance, at, run, EventsFit}
use Rattle.wmtl.specs.Settled.{SettledTrue, SettledFalse, Settled, undecided}
use Rattle.wmtl.specs.Residual.{Term, is_true, is_false, fresh, waiting, both, either, verdict, rewritten, rewritten_all, residual}
use Rattle.wmtl.specs.Theorems.{VerdictsAreExact, VerdictsAreFinal, CoveredRulesAreDecided, AdvanceInTwoParts, ResidualNumbersFit, EveryRunContinues, SettledOneWay}
use Rattle.wmtl.proofs.Terms.{Open}
use Rattle.wmtl.proofs.Progression.{events_fit, residual_sat, residual_numbers_fit}
use Rattle.wmtl.proofs.Index.{settled_true, settled_false}
use Rattle.wmtl.proofs.Coverage.{covered_or}
use Rattle.wmtl.proofs.Continuation as C
use Rattle.wmtl.proofs.TwoParts.{two_parts}

module _ (m : Meaning) (law : Lawful m) (f : Formula) (es : List Event) (h : EventsFit es) where
  true_exact : (residual m f es ≡ is_true) ↔ SettledTrue m f (run es) 0
  true_exact = Iff.symm (Iff.trans (settled_true m (run es) f 0) (residual_sat m law true f es h))

  false_exact : (residual m f es ≡ is_false) ↔ SettledFalse m f (run es) 0
  false_exact = Iff.symm (Iff.trans (settled_false m (run es) f 0) (residual_sat m law false f es h))

  verdict_exact : Settled m f (run es) (verdict (residual m f es))
  verdict_exact = go (residual m f es) refl
    where
      neither : (t : Term) → Open t → residual m f es ≡ t → Settled m f (run es) undecided
      neither t o e = (λ s. subst Open (sym e ∙ true_exact.1 s) o, λ s. subst Open (sym e ∙ false_exact.1 s) o)

      go : (t : Term) → residual m f es ≡ t → Settled m f (run es) (verdict t)
      go is_true e = true_exact.0 e
      go is_false e = false_exact.0 e
      go (fresh g) e = neither (fresh g) tt e
      go (waiting t x) e = neither (waiting t x) tt e
      go (both t u) e = neither (both t u) tt e
      go (either t u) e = neither (either t u) tt e

pub exact : VerdictsAreExact
exact m law f es h =
    record {
      when_true = true_exact m law f es h;
      when_false = false_exact m law f es h;
      in_any_case = verdict_exact m law f es h;
    }

-- some events and then others; a constant stays
pub rewritten_append : (m : Meaning) (es later : List Event) (t : Term)
    → rewritten_all m (es ++ later) t ≡ rewritten_all m later (rewritten_all m es t)
rewritten_append m [] later t = refl
rewritten_append m (e ∷ es) later t = rewritten_append m es later (rewritten m e t)

pub true_stays : (m : Meaning) (es : List Event) → rewritten_all m es is_true ≡ is_true
true_stays m [] = refl
true_stays m (observe s ∷ es) = true_stays m es
true_stays m (advance a ∷ es) = true_stays m es

pub false_stays : (m : Meaning) (es : List Event) → rewritten_all m es is_false ≡ is_false
false_stays m [] = refl
false_stays m (observe s ∷ es) = false_stays m es
false_stays m (advance a ∷ es) = false_stays m es

pub final : VerdictsAreFinal
final m law f es h =
    let r = (events_fit es h).1 in
    let kept = λ (later : List Event). rewritten_append m es later (fresh f) in
    record {
      true_holds = λ e ω k. C.true_holds m law (run es) r ω k f 0 ((true_exact m law f es h).0 e);
      false_fails = λ e ω k. C.false_fails m law (run es) r ω k f 0 ((false_exact m law f es h).0 e);
      true_stays = λ e later. kept later ∙ ap (rewritten_all m later) e ∙ true_stays m later;
      false_stays = λ e later. kept later ∙ ap (rewritten_all m later) e ∙ false_stays m later;
    }

pub decided : CoveredRulesAreDecided
decided m law f es h c =
    ⊎_map (residual_sat m law true f es h).0 (residual_sat m law false f es h).0
    (covered_or m law (run es) (events_fit es h).1 f 0 c)

pub in_two_parts : AdvanceInTwoParts
in_two_parts m law c a b fa fb t h = two_parts m law c a b fa fb t h

pub numbers_fit : ResidualNumbersFit
numbers_fit m law f es h = residual_numbers_fit m law f es h

pub continues : EveryRunContinues
continues ρ h = (
  at ρ,
  record {
    same_marks = λ i l. refl;
    same_advances = λ i l. refl;
    more_advances = λ i l. ([], sym (append-nil (at ρ i).advances));
    amounts_fit = h;
  },
)

pub one_way : SettledOneWay
one_way m law f ρ h i x y =
    let k = continues ρ h in
    C.false_fails m law ρ h k.0 k.1 f i y (C.true_holds m law ρ h k.0 k.1 f i x)

-- what is settled either way is settled at an observation
pub true_observed : (m : Meaning) (f : Formula) (ρ : Run) (i : ℕ) → SettledTrue m f ρ i → i < length ρ
true_observed m (mark k) ρ i y = y.0
true_observed m (not_mark k) ρ i y = y.0
true_observed m (all fs) ρ i y = y.0
true_observed m (any fs) ρ i y = y.0
true_observed m (next f) ρ i y = y.0
true_observed m (timed t) ρ i y = y.0

pub false_observed : (m : Meaning) (f : Formula) (ρ : Run) (i : ℕ) → SettledFalse m f ρ i → i < length ρ
false_observed m (mark k) ρ i y = y.0
false_observed m (not_mark k) ρ i y = y.0
false_observed m (all fs) ρ i y = y.0
false_observed m (any fs) ρ i y = y.0
false_observed m (next f) ρ i y = y.0
false_observed m (timed t) ρ i y = y.0
