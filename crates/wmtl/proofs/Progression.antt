-- What a term means on what is to come; each event keeps it, and with nothing to come only a constant is settled.
use Prim.Native.Nat.{ℕ, zero, suc}
use mathlib.Core.Path.{◌≡◌, refl, subst, sym}
use mathlib.Core.List.{List, [], ◌∷◌}
use mathlib.Core.Bool.{Bool, true, false, not, cond}
use mathlib.Core.Logic.Iff
use mathlib.Core.Logic.{◌↔◌}
use borrow.Author.Tests.{both_ways}
use lib.Dec.{T, eqb}
use Rattle.gauge.specs.Meaning.{Meaning, Lawful, Fits}
use Rattle.wmtl.specs.Formula.{Window, Formula, Operands, Timed, mark, not_mark, all, any, next, timed, none, more, until, release, eventually, always, before, past}
use Rattle.wmtl.specs.Run.{Advance, Step, Run, Event, observe, advance, at, has, AmountsFit, RunFits, EventsFit, first_advances, run, added_all}
use Rattle.wmtl.specs.Residual.{Term, is_true, is_false, fresh, waiting, both, either, window_of, expired, waiting_at, advanced, fresh_observed, all_observed, any_observed, waiting_observed, observed, rewritten_all, residual, NumbersFit}
use Rattle.wmtl.proofs.Polarity.{same, Join, join_iff, const_left, const_right, null_left, null_right, neither, same_not}
use Rattle.wmtl.proofs.Terms.{constant, fuse, turn, Open, Fusing, fusing}
use Rattle.wmtl.proofs.Windows.{past_rises, zero_not_past}
use Rattle.wmtl.proofs.Readings.{added_all_rises}
use Rattle.wmtl.proofs.Spans.{Spans, past_spans, none_spans, step_inside, step_before}
use Rattle.wmtl.proofs.Suffix.{Sat, Sats, SatTimed}

module _ (m : Meaning) where
  -- t is settled as v on the advances xs and then the steps σ
  abbrev Means : Bool → Term → List Advance → Run → Type 0
  Means v is_true xs σ = T (same v true)
  Means v is_false xs σ = T (same v false)
  Means v (fresh f) xs σ = Sat m v f σ
  Means v (waiting t x) xs σ = SatTimed m v t (added_all m (window_of t).clock x xs) σ
  Means v (both t u) xs σ = Join (same v true) (Means v t xs σ) (Means v u xs σ)
  Means v (either t u) xs σ = Join (same v false) (Means v t xs σ) (Means v u xs σ)

  -- the reading of a waiting formula's clock is past its window
  abbrev over : Timed → ℕ → Bool
  over t x = past (window_of t) (m.read (window_of t).clock x)

  -- the terms that arise: numbers of 64 bits, none past its window, and no constant inside
  abbrev Ok : Term → Type 0
  Ok is_true = Unit {0}
  Ok is_false = Unit {0}
  Ok (fresh f) = Unit {0}
  Ok (waiting t x) = Fits x × (over t x ≡ false)
  Ok (both t u) = Ok t × Ok u × Open t × Open u
  Ok (either t u) = Ok t × Ok u × Open t × Open u

  -- ---- at the end of the run only a constant is settled
  none_sat : (v : Bool) (f : Formula) → Sat m v f [] → ⊥
  none_sat v (mark k) x = x
  none_sat v (not_mark k) x = x
  none_sat v (all fs) x = x.0
  none_sat v (any fs) x = x.0
  none_sat v (next f) x = x
  none_sat v (timed t) x = x.0

  none_timed : (v : Bool) (t : Timed) (x : ℕ) → over t x ≡ false → SatTimed m v t x [] → ⊥
  none_timed v (until w l r) x h y = none_spans m w _ _ (same v true) x h y
  none_timed v (release w l r) x h y = none_spans m w _ _ (same v false) x h y
  none_timed v (eventually w r) x h y = none_spans m w _ _ (same v true) x h y
  none_timed v (always w r) x h y = none_spans m w _ _ (same v false) x h y

  none_means : (v : Bool) (t : Term) → Ok t → Open t → Means v t [] [] → ⊥
  none_means v is_true k o x = o
  none_means v is_false k o x = o
  none_means v (fresh f) k o x = none_sat v f x
  none_means v (waiting t y) k o x = none_timed v t y k.1 x
  none_means v (both t u) k o x = neither (same v true) (none_means v t k.0 k.2) (none_means v u k.1 k.3) x
  none_means v (either t u) k o x =
      neither (same v false) (none_means v t k.0 k.2) (none_means v u k.1 k.3) x

  means_constant : (v : Bool) → Means v (constant v) [] []
  means_constant true = tt
  means_constant false = tt

  constant_is : (v b : Bool) → T (same v b) → constant b ≡ constant v
  constant_is true true h = refl
  constant_is true false h = absurd h
  constant_is false true h = absurd h
  constant_is false false h = refl

  means_end : (v : Bool) (t : Term) → Ok t → Means v t [] [] ↔ (t ≡ constant v)
  means_end v t k = (to t k, λ e. subst (λ (u : Term). Means v u [] []) (sym e) (means_constant v))
    where
      to : (t : Term) → Ok t → Means v t [] [] → t ≡ constant v
      to is_true k x = constant_is v true x
      to is_false k x = constant_is v false x
      to (fresh f) k x = absurd (none_means v (fresh f) k tt x)
      to (waiting t y) k x = absurd (none_means v (waiting t y) k tt x)
      to (both t u) k x = absurd (none_means v (both t u) k tt x)
      to (either t u) k x = absurd (none_means v (either t u) k tt x)

  -- ---- a term stands for a statement on what is to come
  module _ (v : Bool) (xs : List Advance) (σ : Run) where
    record Stands (A : Type 0) (t : Term) : Type 0 where
      ok : Ok t
      means : A ↔ Means v t xs σ

    along : {A B : Type 0} {t : Term} → A ↔ B → Stands B t → Stands A t
    along h k = record { ok = k.ok; means = Iff.trans h k.means }

    abbrev Fused : Bool → Term → Term → Term → Type 0
    Fused q t u r = (Ok t → Ok u → Ok r) × (Join (same v q) (Means v t xs σ) (Means v u xs σ) ↔ Means v r xs σ)

    fuses : (q : Bool) → Fusing q (Fused q)
    fuses true =
        record {
          same_left = λ u. (λ k h. h, Iff.symm (const_left _ (same v true)));
          other_left = λ u. (λ k h. tt, Iff.symm (null_left _ v true));
          same_right = λ t. (λ k h. k, Iff.symm (const_right _ (same v true)));
          other_right = λ t. (λ k h. tt, Iff.symm (null_right _ v true));
          both_open = λ t u o o'. (λ k h. (k, h, o, o'), Iff.rfl);
        }
    fuses false =
        record {
          same_left = λ u. (λ k h. h, Iff.symm (const_left _ (same v false)));
          other_left = λ u. (λ k h. tt, Iff.symm (null_left _ v false));
          same_right = λ t. (λ k h. k, Iff.symm (const_right _ (same v false)));
          other_right = λ t. (λ k h. tt, Iff.symm (null_right _ v false));
          both_open = λ t u o o'. (λ k h. (k, h, o, o'), Iff.rfl);
        }

    fused : {A B : Type 0} {t u : Term} → (q : Bool) → Stands A t → Stands B u → Stands (Join (same v q) A B) (fuse q t u)
    fused {t = t} {u = u} q h k =
        let f = fusing q (Fused q) (fuses q) t u in
        record { ok = f.0 h.ok k.ok; means = Iff.trans (join_iff (same v q) h.means k.means) f.1 }

    itself : (t : Term) → Ok t → Stands (Means v t xs σ) t
    itself t k = record { ok = k; means = Iff.rfl }

  -- ---- an observation
  inside_as : (v p : Bool) (w : Window) (L R : Run → Type 0) (x : ℕ) (s : Step) (σ : Run)
      → (before w (m.read w.clock x) ≡ false) × (past w (m.read w.clock x) ≡ false)
      → Spans m (same v p) w L R x (s ∷ σ)
      ↔ Join (same v (not p)) (R (s ∷ σ))
      (Join (same v p) (L (s ∷ σ)) (Spans m (same v p) w L R (added_all m w.clock x s.advances) σ))
  inside_as true p w L R x s σ i = step_inside m w L R x s σ p i
  inside_as false p w L R x s σ i = step_inside m w L R x s σ (not p) i

  module _ (v : Bool) (s : Step) (σ : Run) where
    turned : {l r W : Term} → (p : Bool) (w : Window) (L R : Run → Type 0) (x : ℕ)
        → Stands v s.advances σ (L (s ∷ σ)) l
        → Stands v s.advances σ (R (s ∷ σ)) r
        → Stands v s.advances σ (Spans m (same v p) w L R (added_all m w.clock x s.advances) σ) W
        → past w (m.read w.clock x) ≡ false
        → (b : Bool) → before w (m.read w.clock x) ≡ b
        → Stands v s.advances σ (Spans m (same v p) w L R x (s ∷ σ)) (turn b p l r W)
    turned p w L R x hl hr hw u true e =
        along v s.advances σ (step_before m w L R x s σ (same v p) (λ i. both_ways _ i.0 e))
        (fused v s.advances σ p hl hw)
    turned p w L R x hl hr hw u false e =
        along v s.advances σ (inside_as v p w L R x s σ (e, u))
        (fused v s.advances σ (not p) hr (fused v s.advances σ p hl hw))

  mark_stands : (v b : Bool) (xs : List Advance) (σ : Run) → Stands v xs σ (T (same v b)) (cond b is_true is_false)
  mark_stands v true xs σ = itself v xs σ is_true tt
  mark_stands v false xs σ = itself v xs σ is_false tt

  not_mark_stands : (v b : Bool) (xs : List Advance) (σ : Run)
      → Stands v xs σ (T (same v (not b))) (cond b is_false is_true)
  not_mark_stands v true xs σ = itself v xs σ is_false tt
  not_mark_stands v false xs σ = itself v xs σ is_true tt

module _ (m : Meaning) (law : Lawful m) where
  starts_ok : (t : Timed) → Ok m (waiting t (m.start (window_of t).clock))
  starts_ok t = (
    law.start_fits (window_of t).clock,
    subst (λ (x : ℕ). past (window_of t) x ≡ false) (sym (law.starts_at_zero (window_of t).clock))
        (zero_not_past (window_of t)),
  )

  module _ (v : Bool) (s : Step) (σ : Run) where
    abbrev Now : Type 0 → Term → Type 0
    Now A t = Stands m v s.advances σ A t

    seen : {A : Type 0} {t : Term} → Now A t → Now (Unit {0} × A) t
    seen h = along m v s.advances σ (λ x. x.1, λ y. (tt, y)) h

    mutual
      fresh_stands : (f : Formula) → Now (Sat m v f (s ∷ σ)) (fresh_observed m s.marks f)
      fresh_stands (mark k) = mark_stands m v (has k s.marks) s.advances σ
      fresh_stands (not_mark k) = not_mark_stands m v (has k s.marks) s.advances σ
      fresh_stands (all fs) = seen (all_stands fs)
      fresh_stands (any fs) = seen (any_stands fs)
      fresh_stands (next f) = itself m v s.advances σ (fresh f) tt
      fresh_stands (timed t) = seen (waiting_stands t (m.start (window_of t).clock) (starts_ok t))

      all_stands : (fs : Operands) → Now (Sats m v true fs (s ∷ σ)) (all_observed m s.marks fs)
      all_stands none = itself m v s.advances σ is_true tt
      all_stands (more f fs) = fused m v s.advances σ true (fresh_stands f) (all_stands fs)

      any_stands : (fs : Operands) → Now (Sats m v false fs (s ∷ σ)) (any_observed m s.marks fs)
      any_stands none = itself m v s.advances σ is_false tt
      any_stands (more f fs) = fused m v s.advances σ false (fresh_stands f) (any_stands fs)

      waiting_stands : (t : Timed) (x : ℕ) → Ok m (waiting t x)
          → Now (SatTimed m v t x (s ∷ σ)) (waiting_observed m s.marks t x)
      waiting_stands (until w l r) x k =
          turned m v s σ true w (Sat m v l) (Sat m v r) x (fresh_stands l) (fresh_stands r)
          (itself m v s.advances σ (waiting (until w l r) x) k) k.1 _ refl
      waiting_stands (release w l r) x k =
          turned m v s σ false w (Sat m v l) (Sat m v r) x (fresh_stands l) (fresh_stands r)
          (itself m v s.advances σ (waiting (release w l r) x) k) k.1 _ refl
      waiting_stands (eventually w r) x k =
          turned m v s σ true w (λ τ. T (same v true)) (Sat m v r) x
          (itself m v s.advances σ is_true tt) (fresh_stands r)
          (itself m v s.advances σ (waiting (eventually w r) x) k) k.1 _ refl
      waiting_stands (always w r) x k =
          turned m v s σ false w (λ τ. T (same v false)) (Sat m v r) x
          (itself m v s.advances σ is_false tt) (fresh_stands r)
          (itself m v s.advances σ (waiting (always w r) x) k) k.1 _ refl

    observed_stands : (t : Term) → Ok m t → Now (Means m v t [] (s ∷ σ)) (observed m s.marks t)
    observed_stands is_true k = itself m v s.advances σ is_true tt
    observed_stands is_false k = itself m v s.advances σ is_false tt
    observed_stands (fresh f) k = fresh_stands f
    observed_stands (waiting t x) k = waiting_stands t x k
    observed_stands (both t u) k = fused m v s.advances σ true (observed_stands t k.0) (observed_stands u k.1)
    observed_stands (either t u) k = fused m v s.advances σ false (observed_stands t k.0) (observed_stands u k.1)

  -- ---- an advance
  module _ (v : Bool) (xs : List Advance) (σ : Run) (fx : AmountsFit xs) (fσ : RunFits (at σ)) where
    over_spans : (p : Bool) (w : Window) (L R : Run → Type 0) (y : ℕ) → Fits y → past w (m.read w.clock y) ≡ true
        → Spans m (same v p) w L R (added_all m w.clock y xs) σ ↔ T (same v (not p))
    over_spans p w L R y fy h =
        let r = added_all_rises m law w.clock y xs fy fx in
        Iff.trans (past_spans m w L R law (same v p) (added_all m w.clock y xs) σ r.0 fσ (past_rises w _ _ r.1 h))
        (same_not v p)

    over_stands : (t : Timed) (y : ℕ) → Fits y → over m t y ≡ true
        → Stands m v xs σ (Means m v (waiting t y) xs σ) (expired t)
    over_stands (until w l r) y fy h = record { ok = tt; means = over_spans true w _ _ y fy h }
    over_stands (release w l r) y fy h = record { ok = tt; means = over_spans false w _ _ y fy h }
    over_stands (eventually w r) y fy h = record { ok = tt; means = over_spans true w _ _ y fy h }
    over_stands (always w r) y fy h = record { ok = tt; means = over_spans false w _ _ y fy h }

    at_stands : (t : Timed) (y : ℕ) → Fits y → Stands m v xs σ (Means m v (waiting t y) xs σ) (waiting_at m t y)
    at_stands t y fy = go (over m t y) refl
      where
        go : (b : Bool) → over m t y ≡ b
            → Stands m v xs σ (Means m v (waiting t y) xs σ) (cond b (expired t) (waiting t y))
        go false h = itself m v xs σ (waiting t y) (fy, h)
        go true h = over_stands t y fy h

    module _ (a : Advance) (fa : Fits a.amount) where
      advanced_stands : (t : Term) → Ok m t → Stands m v xs σ (Means m v t (a ∷ xs) σ) (advanced m a t)
      advanced_stands is_true k = itself m v xs σ is_true tt
      advanced_stands is_false k = itself m v xs σ is_false tt
      advanced_stands (fresh f) k = itself m v xs σ (fresh f) tt
      advanced_stands (waiting t x) k = go (eqb a.clock (window_of t).clock)
        where
          y : ℕ
          y = m.add (window_of t).clock x a.amount

          go : (b : Bool)
              → Stands m v xs σ (Means m v (waiting t (cond b y x)) xs σ) (cond b (waiting_at m t y) (waiting t x))
          go false = itself m v xs σ (waiting t x) k
          go true = at_stands t y (law.add_fits (window_of t).clock x a.amount k.0 fa)
      advanced_stands (both t u) k = fused m v xs σ true (advanced_stands t k.0) (advanced_stands u k.1)
      advanced_stands (either t u) k = fused m v xs σ false (advanced_stands t k.0) (advanced_stands u k.1)

-- ---- a list of events
pub events_fit : (es : List Event) → EventsFit es → AmountsFit (first_advances es) × RunFits (at (run es))
events_fit [] h = (tt, λ i. tt)
events_fit (observe s ∷ es) h = (tt, each (events_fit es h))
  where
    each : AmountsFit (first_advances es) × RunFits (at (run es)) → RunFits (at (run (observe s ∷ es)))
    each k zero = k.0
    each k (suc i) = k.1 i
events_fit (advance a ∷ es) h = let k = events_fit es h.1 in ((h.0, k.0), k.1)

module _ (m : Meaning) (law : Lawful m) where
  -- after the events: a term that is Ok, and the constant v just where the term before them was settled as v
  events_stand : (v : Bool) (es : List Event) → EventsFit es → (t : Term) → Ok m t
      → Ok m (rewritten_all m es t) × (Means m v t (first_advances es) (run es) ↔ (rewritten_all m es t ≡ constant v))
  events_stand v [] h t k = (k, means_end m v t k)
  events_stand v (observe s ∷ es) h t k =
      let n = observed_stands m law v (record { marks = s; advances = first_advances es }) (run es) t k in
      let r = events_stand v es h (observed m s t) n.ok in
      (r.0, Iff.trans n.means r.1)
  events_stand v (advance a ∷ es) h t k =
      let f = events_fit es h.1 in
      let n = advanced_stands m law v (first_advances es) (run es) f.0 f.1 a h.0 t k in
      let r = events_stand v es h.1 (advanced m a t) n.ok in
      (r.0, Iff.trans n.means r.1)

  -- the residual is the constant v just where the formula is settled as v at the first observation
  pub residual_sat : (v : Bool) (f : Formula) (es : List Event) → EventsFit es
      → Sat m v f (run es) ↔ (residual m f es ≡ constant v)
  residual_sat v f es h = (events_stand v es h (fresh f) tt).1

  numbers_fit : (t : Term) → Ok m t → NumbersFit t
  numbers_fit is_true k = tt
  numbers_fit is_false k = tt
  numbers_fit (fresh f) k = tt
  numbers_fit (waiting t x) k = k.0
  numbers_fit (both t u) k = (numbers_fit t k.0, numbers_fit u k.1)
  numbers_fit (either t u) k = (numbers_fit t k.0, numbers_fit u k.1)

  pub residual_numbers_fit : (f : Formula) (es : List Event) → EventsFit es → NumbersFit (residual m f es)
  residual_numbers_fit f es h = numbers_fit (residual m f es) (events_stand true es h (fresh f) tt).0
