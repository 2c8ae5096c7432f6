-- What is settled at observation i is what is settled at the first observation of the run from i on.
use Prim.Native.Nat.{ℕ, zero, suc, ◌+◌, ◌-◌, ◌≤◌, ◌<◌}
use mathlib.Core.Path.{◌≡◌, refl, sym, ap, subst, ◌∙◌}
use mathlib.Core.List.{[], ◌∷◌}
use mathlib.Core.Bool.{Bool, true, false, not}
use mathlib.Core.Logic.Iff
use mathlib.Core.Logic.{◌↔◌}
use native.Mathlib.Omega.{arith}
use borrow.Author.Tests.{clash}
use lib.Dec.{T}
use lib.ListN.{length, drop, length-drop}
use lib.Seq.{drop-drop}
use Rattle.std.proofs.Math.Logic.{⊎_map}
use Rattle.gauge.specs.Meaning.{Meaning}
use Rattle.wmtl.specs.Formula.{Window, Formula, Operands, Timed, mark, not_mark, all, any, next, timed, none, more, until, release, eventually, always, past, Inside}
use Rattle.wmtl.specs.Run.{Step, Run, Endless, at, has, added_all, total, amount_between, Earlier}
use Rattle.wmtl.specs.Settled.{SomePoint, EachPoint, SettledTrue, EachTrue, SomeTrue, TimedTrue, SettledFalse, EachFalse, SomeFalse, TimedFalse}
use Rattle.wmtl.specs.Residual.{window_of}
use Rattle.wmtl.proofs.Polarity.{join_iff}
use Rattle.wmtl.proofs.Readings.{after, reading_after}
use Rattle.wmtl.proofs.Spans.{Spans, SomeBefore}
use Rattle.wmtl.proofs.Suffix.{Seen, First, Sat, Sats, SatTimed}

-- ---- the observation at i is the first from i on
pub first_at : (P : Step → Run → Type 0) (ρ : Run) (i : ℕ)
    → ((i < length ρ) × P (at ρ i) (drop (suc i) ρ)) ↔ First P (drop i ρ)
first_at P [] zero = (λ x. let h = x.0 in omega arith, λ z. absurd z)
first_at P [] (suc i) = (λ x. let h = x.0 in omega arith, λ z. absurd z)
first_at P (s ∷ ρ) zero = (λ x. x.1, λ y. (omega arith, y))
first_at P (s ∷ ρ) (suc i) =
    let ih = first_at P ρ i in
    (λ x. ih.0 (let h = x.0 in omega arith, x.1), λ y. (let h = (ih.1 y).0 in omega arith, (ih.1 y).1))

first_iff : {A : Type 0} → (P : Step → Run → Type 0) (ρ : Run) (i : ℕ) → A ↔ P (at ρ i) (drop (suc i) ρ)
    → ((i < length ρ) × A) ↔ First P (drop i ρ)
first_iff P ρ i h = Iff.trans (λ x. (x.0, h.0 x.1), λ x. (x.0, h.1 x.1)) (first_at P ρ i)

pub seen_at : (ρ : Run) (i : ℕ) → (i < length ρ) ↔ Seen (drop i ρ)
seen_at [] zero = (λ h. let z : ⊥ = omega arith in z, λ z. absurd z)
seen_at [] (suc i) = (λ h. let z : ⊥ = omega arith in z, λ z. absurd z)
seen_at (s ∷ ρ) zero = (λ h. tt, λ u. omega arith)
seen_at (s ∷ ρ) (suc i) = let ih = seen_at ρ i in (λ h. ih.0 (omega arith), λ u. let h = ih.1 u in omega arith)

seen_iff : {A B : Type 0} → (ρ : Run) (i : ℕ) → A ↔ B → ((i < length ρ) × A) ↔ (Seen (drop i ρ) × B)
seen_iff ρ i h = (λ x. ((seen_at ρ i).0 x.0, h.0 x.1), λ y. ((seen_at ρ i).1 y.0, h.1 y.1))

-- ---- tests
true_iff : (b : Bool) → (b ≡ true) ↔ T b
true_iff true = (λ e. tt, λ u. refl)
true_iff false = (λ e. clash e, λ z. absurd z)

false_iff : (b : Bool) → (b ≡ false) ↔ T (not b)
false_iff true = (λ e. clash (sym e), λ z. absurd z)
false_iff false = (λ e. tt, λ u. refl)

not_false_iff : (b : Bool) → (b ≡ true) ↔ T (not (not b))
not_false_iff true = (λ e. tt, λ u. refl)
not_false_iff false = (λ e. clash e, λ z. absurd z)

module _ (m : Meaning) where
  -- ---- amounts since i
  total_nil : (c x i d : ℕ) → total m c (at []) x i d ≡ x
  total_nil c x i zero = refl
  total_nil c x i (suc d) = total_nil c x (suc i) d

  total_shift : (c : ℕ) (ω : Endless) (x i d : ℕ) → total m c ω x (suc i) d ≡ total m c (λ k. ω (suc k)) x i d
  total_shift c ω x i zero = refl
  total_shift c ω x i (suc d) = total_shift c ω (added_all m c x (ω (suc i)).advances) (suc i) d

  total_drop : (c : ℕ) (ρ : Run) (x i d : ℕ) → total m c (at ρ) x i d ≡ after m c x d (drop i ρ)
  total_drop c [] x zero zero = refl
  total_drop c [] x zero (suc d) = total_nil c x zero (suc d)
  total_drop c [] x (suc i) zero = refl
  total_drop c [] x (suc i) (suc d) = total_nil c x (suc i) (suc d)
  total_drop c (s ∷ ρ) x zero zero = refl
  total_drop c (s ∷ ρ) x zero (suc d) =
      let y = added_all m c x s.advances in total_shift c (at (s ∷ ρ)) y zero d ∙ total_drop c ρ y zero d
  total_drop c (s ∷ ρ) x (suc i) d = total_shift c (at (s ∷ ρ)) x i d ∙ total_drop c ρ x i d

  module _ (ρ : Run) (i : ℕ) where
    -- ---- what is so of the run from i + d on is so of the d-th step from i on, and back
    pub on : (P : Run → Type 0) (d : ℕ) → P (drop (i + d) ρ) → P (drop d (drop i ρ))
    on P d = subst P (sym (drop-drop d i ρ))

    off : (P : Run → Type 0) (d : ℕ) → P (drop d (drop i ρ)) → P (drop (i + d) ρ)
    off P d = subst P (drop-drop d i ρ)

    there : (k : ℕ) → i ≤ k → i + (k - i) ≡ k
    there k h = omega arith

    on_at : (P : Run → Type 0) (k : ℕ) → i ≤ k → P (drop k ρ) → P (drop (k - i) (drop i ρ))
    on_at P k h p = on P (k - i) (subst (λ (n : ℕ). P (drop n ρ)) (sym (there k h)) p)

    off_at : (P : Run → Type 0) (k : ℕ) → i ≤ k → P (drop (k - i) (drop i ρ)) → P (drop k ρ)
    off_at P k h p = subst (λ (n : ℕ). P (drop n ρ)) (there k h) (off P (k - i) p)

    len : length (drop i ρ) ≡ length ρ - i
    len = length-drop i ρ

    module _ (w : Window) where
      -- the reading at the d-th step from i on
      abbrev reading : ℕ → ℕ
      reading d = reading_after m w (m.start w.clock) d (drop i ρ)

      amount_since : (j : ℕ) → amount_between m w.clock (at ρ) i j ≡ reading (j - i)
      amount_since j = ap (m.read w.clock) (total_drop w.clock ρ (m.start w.clock) i (j - i))

      pub amount_to_end : amount_between m w.clock (at ρ) i (length ρ) ≡ reading (length (drop i ρ))
      amount_to_end = amount_since (length ρ) ∙ ap reading (sym len)

      pub amount_on : (d : ℕ) → amount_between m w.clock (at ρ) i (i + d) ≡ reading d
      amount_on d = amount_since (i + d) ∙ ap reading (omega arith)

      module _ (L R : ℕ → Type 0) (L' R' : Run → Type 0)
          (hl : (j : ℕ) → L j ↔ L' (drop j ρ)) (hr : (j : ℕ) → R j ↔ R' (drop j ρ)) where
        earlier_on : (j d : ℕ) → j ≤ i + d → Earlier L i j → SomeBefore L' d (drop i ρ)
        earlier_on j d e x =
            let h = x.1 in let n = x.2 in (x.0 - i, omega arith, on_at L' x.0 x.1 ((hl x.0).0 x.3))

        earlier_off : (j d : ℕ) → i + d ≤ j → SomeBefore L' d (drop i ρ) → Earlier L i j
        earlier_off j d e x =
            let h = x.1 in (i + x.0, omega arith, omega arith, (hl (i + x.0)).1 (off L' x.0 x.2))

        some_point : SomePoint m w L R ρ i ↔ Spans m true w L' R' (m.start w.clock) (drop i ρ)
        some_point = (
          λ x.
              let h = x.1 in let n = x.2 in let e = len in (
                x.0 - i,
                omega arith,
                subst (Inside w) (amount_since x.0) x.3,
                on_at R' x.0 x.1 ((hr x.0).0 x.4),
                λ k l. on L' k ((hl (i + k)).0 (x.5 (i + k) (omega arith) (omega arith))),
              ),
          λ y.
              let n = y.1 in let e = len in (
                i + y.0,
                omega arith,
                omega arith,
                subst (Inside w) (sym (amount_on y.0)) y.2,
                (hr (i + y.0)).1 (off R' y.0 y.3),
                λ k h l. (hl k).1 (off_at L' k h (y.4 (k - i) (omega arith))),
              ),
        )

        each_point : EachPoint m w L R ρ i ↔ Spans m false w L' R' (m.start w.clock) (drop i ρ)
        each_point =
            let e = len in (
              λ x. (
                λ d l n.
                    ⊎_map (λ r. on R' d ((hr (i + d)).0 r)) (earlier_on (i + d) d (omega arith))
                    (x.0 (i + d) (omega arith) (omega arith) (subst (Inside w) (sym (amount_on d)) n)),
                ⊎_map (subst (λ (n : ℕ). past w n ≡ true) amount_to_end)
                    (earlier_on (length ρ) (length (drop i ρ)) (omega arith)) x.1,
              ),
              λ y. (
                λ j h l n.
                    ⊎_map (λ r. (hr j).1 (off_at R' j h r)) (earlier_off j (j - i) (omega arith))
                    (y.0 (j - i) (omega arith) (subst (Inside w) (amount_since j) n)),
                ⊎_map (subst (λ (n : ℕ). past w n ≡ true) (sym amount_to_end))
                    (λ q. let o = q.1 in earlier_off (length ρ) (length (drop i ρ)) (omega arith) q) y.1,
              ),
            )

  -- ---- each kind, settled true and settled false
  module _ (ρ : Run) where
    mutual
      pub settled_true : (f : Formula) (i : ℕ) → SettledTrue m f ρ i ↔ Sat m true f (drop i ρ)
      settled_true (mark k) i = first_iff _ ρ i (true_iff (has k (at ρ i).marks))
      settled_true (not_mark k) i = first_iff _ ρ i (false_iff (has k (at ρ i).marks))
      settled_true (all fs) i = seen_iff ρ i (each_true fs i)
      settled_true (any fs) i = seen_iff ρ i (some_true fs i)
      settled_true (next f) i = first_iff (λ s σ. Sat m true f σ) ρ i (settled_true f (suc i))
      settled_true (timed t) i = seen_iff ρ i (timed_true t i)

      each_true : (fs : Operands) (i : ℕ) → EachTrue m fs ρ i ↔ Sats m true true fs (drop i ρ)
      each_true none i = Iff.rfl
      each_true (more f fs) i = join_iff true (settled_true f i) (each_true fs i)

      some_true : (fs : Operands) (i : ℕ) → SomeTrue m fs ρ i ↔ Sats m true false fs (drop i ρ)
      some_true none i = Iff.rfl
      some_true (more f fs) i = join_iff false (settled_true f i) (some_true fs i)

      timed_true : (t : Timed) (i : ℕ) → TimedTrue m t ρ i ↔ SatTimed m true t (m.start (window_of t).clock) (drop i ρ)
      timed_true (until w l r) i = some_point ρ i w _ _ (Sat m true l) (Sat m true r) (settled_true l) (settled_true r)
      timed_true (release w l r) i = each_point ρ i w _ _ (Sat m true l) (Sat m true r) (settled_true l) (settled_true r)
      timed_true (eventually w r) i = some_point ρ i w _ _ (λ σ. Unit {0}) (Sat m true r) (λ j. Iff.rfl) (settled_true r)
      timed_true (always w r) i = each_point ρ i w _ _ (λ σ. ⊥) (Sat m true r) (λ j. Iff.rfl) (settled_true r)

    mutual
      pub settled_false : (f : Formula) (i : ℕ) → SettledFalse m f ρ i ↔ Sat m false f (drop i ρ)
      settled_false (mark k) i = first_iff _ ρ i (false_iff (has k (at ρ i).marks))
      settled_false (not_mark k) i = first_iff _ ρ i (not_false_iff (has k (at ρ i).marks))
      settled_false (all fs) i = seen_iff ρ i (some_false fs i)
      settled_false (any fs) i = seen_iff ρ i (each_false fs i)
      settled_false (next f) i = first_iff (λ s σ. Sat m false f σ) ρ i (settled_false f (suc i))
      settled_false (timed t) i = seen_iff ρ i (timed_false t i)

      each_false : (fs : Operands) (i : ℕ) → EachFalse m fs ρ i ↔ Sats m false false fs (drop i ρ)
      each_false none i = Iff.rfl
      each_false (more f fs) i = join_iff true (settled_false f i) (each_false fs i)

      some_false : (fs : Operands) (i : ℕ) → SomeFalse m fs ρ i ↔ Sats m false true fs (drop i ρ)
      some_false none i = Iff.rfl
      some_false (more f fs) i = join_iff false (settled_false f i) (some_false fs i)

      timed_false : (t : Timed) (i : ℕ) → TimedFalse m t ρ i ↔ SatTimed m false t (m.start (window_of t).clock) (drop i ρ)
      timed_false (until w l r) i = each_point ρ i w _ _ (Sat m false l) (Sat m false r) (settled_false l) (settled_false r)
      timed_false (release w l r) i = some_point ρ i w _ _ (Sat m false l) (Sat m false r) (settled_false l) (settled_false r)
      timed_false (eventually w r) i = each_point ρ i w _ _ (λ σ. ⊥) (Sat m false r) (λ j. Iff.rfl) (settled_false r)
      timed_false (always w r) i = some_point ρ i w _ _ (λ σ. Unit {0}) (Sat m false r) (λ j. Iff.rfl) (settled_false r)
