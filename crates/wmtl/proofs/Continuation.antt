-- What is settled on a run so far is so on every continuation of it.
use Prim.Native.Nat.{ℕ, zero, suc, ◌+◌, ◌-◌, ◌≤◌, ◌<◌}
use mathlib.Core.Path.{◌≡◌, refl, sym, ap, subst, ◌∙◌}
use mathlib.Core.List.{List, [], ◌∷◌, ◌++◌}
use mathlib.Core.Bool.{Bool, true, false}
use mathlib.Core.Logic.{◌⊎◌, ⊎_elim}
use native.Mathlib.Omega.{arith}
use native.Mathlib.Nat.{le_trans, le_of_eq}
use native.Mathlib.Decide.{dec_le}
use borrow.Author.Tests.{both_ways}
use lib.ListN.{length}
use Rattle.std.proofs.Math.Logic.{⊎_map}
use Rattle.gauge.specs.Meaning.{Meaning, Lawful, Fits}
use Rattle.wmtl.specs.Formula.{Window, Formula, Operands, Timed, mark, not_mark, all, any, next, timed, none, more, until, release, eventually, always, Inside}
use Rattle.wmtl.specs.Run.{Advance, Run, Endless, at, has, AmountsFit, RunFits, added, added_all, total, amount_between, InWindow, past_window, Throughout, Earlier, Continues}
use Rattle.wmtl.specs.Holds.{Holds, EachHolds, SomeHolds, TimedHolds}
use Rattle.wmtl.specs.Settled.{SomePoint, EachPoint, SettledTrue, EachTrue, SomeTrue, TimedTrue, SettledFalse, EachFalse, SomeFalse, TimedFalse}
use Rattle.wmtl.proofs.Windows.{inside_not_past, past_rises}
use Rattle.wmtl.proofs.Readings.{Risen, added_all_rises, total_rises}

added_append : (m : Meaning) (c x : ℕ) (xs ys : List Advance)
    → added_all m c x (xs ++ ys) ≡ added_all m c (added_all m c x xs) ys
added_append m c x [] ys = refl
added_append m c x (a ∷ xs) ys = added_append m c (added m c x a) xs ys

append_fits : (xs ys : List Advance) → AmountsFit (xs ++ ys) → AmountsFit ys
append_fits [] ys h = h
append_fits (a ∷ xs) ys h = append_fits xs ys h.1

module _ (m : Meaning) (law : Lawful m) (ρ : Run) (fρ : RunFits (at ρ)) (ω : Endless) (k : Continues ρ ω) where
  -- ---- amounts: the same between observations of the run so far, and no less beyond it
  module _ (c : ℕ) where
    -- the number after step i, on the run so far and on the continuation
    abbrev here : ℕ → ℕ → ℕ
    here x i = added_all m c x (at ρ i).advances

    abbrev there : ℕ → ℕ → ℕ
    there x i = added_all m c x (ω i).advances

    there_rises : (x i : ℕ) → Fits x → Risen m c x (there x i)
    there_rises x i f = added_all_rises m law c x (ω i).advances f (k.amounts_fit i)

    total_same : (x i d : ℕ) → i + d < length ρ → total m c (at ρ) x i d ≡ total m c ω x i d
    total_same x i zero h = refl
    total_same x i (suc d) h =
        ap (λ (xs : List Advance). total m c (at ρ) (added_all m c x xs) (suc i) d) (sym (k.same_advances i (omega arith)))
        ∙ total_same (there x i) (suc i) d (omega arith)

    -- after the last observation of the run so far
    last_less : (x i : ℕ) → Fits x → suc i ≡ length ρ → m.read c (here x i) ≤ m.read c (there x i)
    last_less x i f h =
        let z = k.more_advances i h in
        let g = append_fits (at ρ i).advances z.0 (subst AmountsFit z.1 (k.amounts_fit i)) in
        let fh = (added_all_rises m law c x (at ρ i).advances f (fρ i)).0 in
        le_trans (added_all_rises m law c (here x i) z.0 fh g).1
        (le_of_eq (ap (m.read c) (sym (added_append m c x (at ρ i).advances z.0) ∙ ap (added_all m c x) (sym z.1))))

    total_less : (x i d e : ℕ) → Fits x → i + d ≤ length ρ → d ≤ e
        → m.read c (total m c (at ρ) x i d) ≤ m.read c (total m c ω x i e)
    total_less x i zero e f h l = (total_rises m law c ω x i e f k.amounts_fit).1
    total_less x i (suc d) zero f h l = absurd (let z : ⊥ = omega arith in z)
    total_less x i (suc d) (suc e) f h l =
        go (dec_le (suc (suc i)) (length ρ)) (total_less (there x i) (suc i) d e fits (omega arith) (omega arith))
      where
        fits : Fits (there x i)
        fits = (there_rises x i f).0

        Less : ℕ → ℕ → Type 0
        Less y n = m.read c (total m c (at ρ) y (suc i) n) ≤ m.read c (total m c ω (there x i) (suc i) e)

        go : Dec (suc i < length ρ) → Less (there x i) d → Less (here x i) d
        go (yes n) ih = subst (λ (xs : List Advance). Less (added_all m c x xs) d) (k.same_advances i n) ih
        go (no n) ih =
            let z : zero ≡ d = omega arith in
            subst (Less (here x i)) z
            (le_trans (last_less x i f (omega arith))
            (total_rises m law c ω (there x i) (suc i) e fits k.amounts_fit).1)

    amount_same : (i j : ℕ) → i ≤ j → j < length ρ → amount_between m c (at ρ) i j ≡ amount_between m c ω i j
    amount_same i j h l = ap (m.read c) (total_same (m.start c) i (j - i) (omega arith))

    amount_less : (i j : ℕ) → i ≤ j → length ρ ≤ j → amount_between m c (at ρ) i (length ρ) ≤ amount_between m c ω i j
    amount_less i j h l = go (dec_le i (length ρ))
      where
        go : Dec (i ≤ length ρ) → amount_between m c (at ρ) i (length ρ) ≤ amount_between m c ω i j
        go (yes n) = total_less (m.start c) i (length ρ - i) (j - i) (law.start_fits c) (omega arith) (omega arith)
        go (no n) =
            let z : zero ≡ length ρ - i = omega arith in
            subst (λ (d : ℕ). m.read c (total m c (at ρ) (m.start c) i d) ≤ amount_between m c ω i j) z
            (total_rises m law c ω (m.start c) i (j - i) (law.start_fits c) k.amounts_fit).1

  -- ---- the two ways to be settled, on the continuation
  module _ (w : Window) (L R : ℕ → Type 0) (i : ℕ) where
    some_on : SomePoint m w L R ρ i → (j : ℕ) × (i ≤ j) × InWindow m w ω i j × R j × Throughout L i j
    some_on x = (x.0, x.1, subst (Inside w) (amount_same w.clock i x.0 x.1 x.2) x.3, x.4, x.5)

    each_on : EachPoint m w L R ρ i → (j : ℕ) → i ≤ j → InWindow m w ω i j → R j ⊎ Earlier L i j
    each_on x j h n = go (dec_le (suc j) (length ρ))
      where
        never : length ρ ≤ j → past_window m w (at ρ) i (length ρ) ≡ true → ⊥
        never l p = inside_not_past w _ n (past_rises w _ _ (amount_less w.clock i j h l) p)

        go : Dec (j < length ρ) → R j ⊎ Earlier L i j
        go (yes l) = x.0 j h l (subst (Inside w) (sym (amount_same w.clock i j h l)) n)
        go (no l) =
            ⊎_map (λ p. absurd (never (omega arith) p)) (λ q. let o = q.2 in (q.0, q.1, omega arith, q.3)) x.1

  -- ---- each kind
  same_mark : (a i : ℕ) (b : Bool) → i < length ρ → has a (at ρ i).marks ≡ b → has a (ω i).marks ≡ b
  same_mark a i b h e = subst (λ (s : ℕ). has a s ≡ b) (sym (k.same_marks i h)) e

  mutual
    pub true_holds : (f : Formula) (i : ℕ) → SettledTrue m f ρ i → Holds m f ω i
    true_holds (mark a) i x = same_mark a i true x.0 x.1
    true_holds (not_mark a) i x = same_mark a i false x.0 x.1
    true_holds (all fs) i x = each_holds fs i x.1
    true_holds (any fs) i x = some_holds fs i x.1
    true_holds (next f) i x = true_holds f (suc i) x.1
    true_holds (timed t) i x = timed_holds t i x.1

    each_holds : (fs : Operands) (i : ℕ) → EachTrue m fs ρ i → EachHolds m fs ω i
    each_holds none i x = tt
    each_holds (more f fs) i x = (true_holds f i x.0, each_holds fs i x.1)

    some_holds : (fs : Operands) (i : ℕ) → SomeTrue m fs ρ i → SomeHolds m fs ω i
    some_holds none i x = x
    some_holds (more f fs) i x = ⊎_map (true_holds f i) (some_holds fs i) x

    timed_holds : (t : Timed) (i : ℕ) → TimedTrue m t ρ i → TimedHolds m t ω i
    timed_holds (until w l r) i x =
        let y = some_on w _ _ i x in (y.0, y.1, y.2, true_holds r y.0 y.3, λ k h n. true_holds l k (y.4 k h n))
    timed_holds (release w l r) i x = λ j h n.
        ⊎_map (true_holds r j) (λ q. (q.0, q.1, q.2, true_holds l q.0 q.3)) (each_on w _ _ i x j h n)
    timed_holds (eventually w r) i x = let y = some_on w _ _ i x in (y.0, y.1, y.2, true_holds r y.0 y.3)
    timed_holds (always w r) i x = λ j h n. ⊎_elim (true_holds r j) (λ q. absurd q.3) (each_on w _ _ i x j h n)

  mutual
    pub false_fails : (f : Formula) (i : ℕ) → SettledFalse m f ρ i → Holds m f ω i → ⊥
    false_fails (mark a) i x h = both_ways _ (same_mark a i false x.0 x.1) h
    false_fails (not_mark a) i x h = both_ways _ h (same_mark a i true x.0 x.1)
    false_fails (all fs) i x h = some_fails fs i x.1 h
    false_fails (any fs) i x h = each_fails fs i x.1 h
    false_fails (next f) i x h = false_fails f (suc i) x.1 h
    false_fails (timed t) i x h = timed_fails t i x.1 h

    some_fails : (fs : Operands) (i : ℕ) → SomeFalse m fs ρ i → EachHolds m fs ω i → ⊥
    some_fails none i x h = x
    some_fails (more f fs) i x h = ⊎_elim (λ y. false_fails f i y h.0) (λ y. some_fails fs i y h.1) x

    each_fails : (fs : Operands) (i : ℕ) → EachFalse m fs ρ i → SomeHolds m fs ω i → ⊥
    each_fails none i x h = h
    each_fails (more f fs) i x h = ⊎_elim (λ y. false_fails f i x.0 y) (λ y. each_fails fs i x.1 y) h

    timed_fails : (t : Timed) (i : ℕ) → TimedFalse m t ρ i → TimedHolds m t ω i → ⊥
    timed_fails (until w l r) i x h =
        ⊎_elim (λ y. false_fails r h.0 y h.3) (λ q. false_fails l q.0 q.3 (h.4 q.0 q.1 q.2))
        (each_on w _ _ i x h.0 h.1 h.2)
    timed_fails (release w l r) i x h =
        let y = some_on w _ _ i x in
        ⊎_elim (λ z. false_fails r y.0 y.3 z) (λ q. false_fails l q.0 (y.4 q.0 q.1 q.2) q.3)
        (h y.0 y.1 y.2)
    timed_fails (eventually w r) i x h =
        ⊎_elim (λ y. false_fails r h.0 y h.3) (λ q. q.3) (each_on w _ _ i x h.0 h.1 h.2)
    timed_fails (always w r) i x h =
        let y = some_on w _ _ i x in false_fails r y.0 y.3 (h y.0 y.1 y.2)
