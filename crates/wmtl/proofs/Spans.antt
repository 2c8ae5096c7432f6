-- Until and release on the run to come: how they unfold at its first step, and what they are once the window is past.
use Prim.Native.Nat.{ℕ, zero, suc, ◌<◌}
use mathlib.Core.Path.{◌≡◌}
use mathlib.Core.List.{[], ◌∷◌}
use mathlib.Core.Bool.{Bool, true, false, not}
use mathlib.Core.Logic.{◌⊎◌, inl, inr, ⊎_elim, ◌↔◌}
use native.Mathlib.Omega.{arith}
use borrow.Author.Tests.{both_ways}
use lib.Dec.{T}
use lib.ListN.{length, drop}
use Rattle.std.proofs.Math.Logic.{⊎_map}
use Rattle.gauge.specs.Meaning.{Meaning, Lawful, Fits}
use Rattle.wmtl.specs.Formula.{Window, past, Inside}
use Rattle.wmtl.specs.Run.{Step, Run, at, RunFits, added_all}
use Rattle.wmtl.proofs.Polarity.{Join}
use Rattle.wmtl.proofs.Windows.{past_rises, inside_not_past, dec_inside}
use Rattle.wmtl.proofs.Readings.{reading_after, after_rises}

-- L is so of each run from before the n-th step on, or of some such run
abbrev pub Before : (Run → Type 0) → ℕ → Run → Type 0
Before L n σ = (k : ℕ) → k < n → L (drop k σ)

abbrev pub SomeBefore : (Run → Type 0) → ℕ → Run → Type 0
SomeBefore L n σ = (k : ℕ) × (k < n) × L (drop k σ)

module _ (m : Meaning) where
  -- the window's clock has the number x as σ begins: at its j-th step, the window is open; it is past
  abbrev pub In : Window → ℕ → ℕ → Run → Type 0
  In w x j σ = Inside w (reading_after m w x j σ)

  abbrev pub Over : Window → ℕ → ℕ → Run → Type 0
  Over w x j σ = past w (reading_after m w x j σ) ≡ true

  -- true: some j in the window has R there and L before it. false: each j in the window has R there or L before it,
  -- and the window is past, or L stood somewhere
  abbrev pub Spans : Bool → Window → (Run → Type 0) → (Run → Type 0) → ℕ → Run → Type 0
  Spans true w L R x σ = (j : ℕ) × (j < length σ) × In w x j σ × R (drop j σ) × Before L j σ
  Spans false w L R x σ =
      ((j : ℕ) → j < length σ → In w x j σ → R (drop j σ) ⊎ SomeBefore L j σ)
      × (Over w x (length σ) σ ⊎ SomeBefore L (length σ) σ)

impossible : {A : Type 0} → (k : ℕ) → k < 0 → A
impossible k h = absurd (let z : ⊥ = omega arith in z)

all_cons : (P : ℕ → Type 0) (j : ℕ) → P zero → ((k : ℕ) → k < j → P (suc k)) → (k : ℕ) → k < suc j → P k
all_cons P j z s zero h = z
all_cons P j z s (suc k) h = s k (omega arith)

-- a finite choice
choose : (A : Type 0) (B : ℕ → Type 0) (n : ℕ) → ((j : ℕ) → j < n → A ⊎ B j) → A ⊎ ((j : ℕ) → j < n → B j)
choose A B zero h = inr (λ j l. impossible j l)
choose A B (suc n) h = go (h zero (omega arith)) (choose A (λ j. B (suc j)) n (λ j l. h (suc j) (omega arith)))
  where
    go : A ⊎ B zero → A ⊎ ((j : ℕ) → j < n → B (suc j)) → A ⊎ ((j : ℕ) → j < suc n → B j)
    go (inl a) r = inl a
    go (inr b) (inl a) = inl a
    go (inr b) (inr bs) = inr (all_cons B n b bs)

module _ (m : Meaning) (w : Window) (L R : Run → Type 0) where
  -- once the window is past
  pub past_spans : Lawful m → (e : Bool) (x : ℕ) (σ : Run) → Fits x → RunFits (at σ)
      → past w (m.read w.clock x) ≡ true → Spans m e w L R x σ ↔ T (not e)
  past_spans law e x σ fx fσ h = go e
    where
      over : (j : ℕ) → Over m w x j σ
      over j = past_rises w _ _ (after_rises m law w.clock x j σ fx fσ).1 h

      go : (e : Bool) → Spans m e w L R x σ ↔ T (not e)
      go true = (λ s. inside_not_past w _ s.2 (over s.0), λ z. absurd z)
      go false = (λ s. tt, λ u. (λ j l i. absurd (inside_not_past w _ i (over j)), inl (over (length σ))))

  -- with no step to come
  pub none_spans : (e : Bool) (x : ℕ) → past w (m.read w.clock x) ≡ false → Spans m e w L R x [] → ⊥
  none_spans true x h s = impossible s.0 s.1
  none_spans false x h s = ⊎_elim (λ p. both_ways _ h p) (λ q. impossible q.0 q.1) s.1

  module _ (x : ℕ) (s : Step) (σ : Run) where
    abbrev ρ : Run
    ρ = s ∷ σ

    abbrev x' : ℕ
    x' = added_all m w.clock x s.advances

    abbrev Now : Type 0
    Now = Inside w (m.read w.clock x)

    -- ---- some point
    some_split : (j : ℕ) → j < length ρ → In m w x j ρ → R (drop j ρ) → Before L j ρ
        → (Now × R ρ) ⊎ (L ρ × Spans m true w L R x' σ)
    some_split zero l i r ls = inl (i, r)
    some_split (suc j) l i r ls = inr (ls zero (omega arith), (j, omega arith, i, r, λ k h. ls (suc k) (omega arith)))

    some_now : Now → R ρ → Spans m true w L R x ρ
    some_now i r = (zero, omega arith, i, r, λ k h. impossible k h)

    some_later : L ρ → Spans m true w L R x' σ → Spans m true w L R x ρ
    some_later l y =
        let n = y.1 in (suc y.0, omega arith, y.2, y.3, all_cons (λ k. L (drop k ρ)) y.0 l y.4)

    -- ---- each point
    later : (n : ℕ) → SomeBefore L n σ → SomeBefore L (suc n) ρ
    later n q = let h = q.1 in (suc q.0, omega arith, q.2)

    now_or_later : (n k : ℕ) → k < suc n → L (drop k ρ) → L ρ ⊎ SomeBefore L n σ
    now_or_later n zero h l = inl l
    now_or_later n (suc k) h l = inr (k, omega arith, l)

    each_join : (Now → R ρ) → L ρ ⊎ Spans m false w L R x' σ → Spans m false w L R x ρ
    each_join r (inl l) = (first, inr (zero, omega arith, l))
      where
        first : (j : ℕ) → j < length ρ → In m w x j ρ → R (drop j ρ) ⊎ SomeBefore L j ρ
        first zero h i = inl (r i)
        first (suc j) h i = inr (zero, omega arith, l)
    each_join r (inr y) = (first, ⊎_map (λ p. p) (later (length σ)) y.1)
      where
        first : (j : ℕ) → j < length ρ → In m w x j ρ → R (drop j ρ) ⊎ SomeBefore L j ρ
        first zero h i = inl (r i)
        first (suc j) h i = ⊎_map (λ a. a) (later j) (y.0 j (omega arith) i)

    each_now : Spans m false w L R x ρ → Now → R ρ
    each_now y i = ⊎_elim (λ r. r) (λ q. impossible q.0 q.1) (y.0 zero (omega arith) i)

    -- L now, or the rest: a choice over the steps to come, by whether each lies in the window
    each_rest : Spans m false w L R x ρ → L ρ ⊎ Spans m false w L R x' σ
    each_rest y =
        together (choose (L ρ) Rest (length σ) (λ j h. at_each j h (dec_inside w (reading_after m w x' j σ))))
        (at_end y.1)
      where
        Rest : ℕ → Type 0
        Rest j = In m w x' j σ → R (drop j σ) ⊎ SomeBefore L j σ

        End : Type 0
        End = Over m w x' (length σ) σ ⊎ SomeBefore L (length σ) σ

        at_each : (j : ℕ) → j < length σ → Dec (In m w x' j σ) → L ρ ⊎ Rest j
        at_each j h (no n) = inr (λ i. absurd (n i))
        at_each j h (yes i) =
            ⊎_elim (λ r. inr (λ _. inl r))
            (λ q. ⊎_map (λ l. l) (λ z _. inr z) (now_or_later j q.0 q.1 q.2))
            (y.0 (suc j) (omega arith) i)

        at_end : Over m w x (length ρ) ρ ⊎ SomeBefore L (length ρ) ρ → L ρ ⊎ End
        at_end (inl p) = inr (inl p)
        at_end (inr q) = ⊎_map (λ l. l) inr (now_or_later (length σ) q.0 q.1 q.2)

        together : L ρ ⊎ ((j : ℕ) → j < length σ → Rest j) → L ρ ⊎ End → L ρ ⊎ Spans m false w L R x' σ
        together (inl l) e = inl l
        together (inr f) (inl l) = inl l
        together (inr f) (inr p) = inr (f, p)

    -- ---- inside the window, and before it
    pub step_inside : (e : Bool) → Now → Spans m e w L R x ρ ↔ Join (not e) (R ρ) (Join e (L ρ) (Spans m e w L R x' σ))
    step_inside true i = (
      λ y. ⊎_map (λ z. z.1) (λ z. z) (some_split y.0 y.1 y.2 y.3 y.4),
      ⊎_elim (λ r. some_now i r) (λ z. some_later z.0 z.1),
    )
    step_inside false i = (λ y. (each_now y i, each_rest y), λ z. each_join (λ _. z.0) z.1)

    pub step_before : (e : Bool) → ¬ Now → Spans m e w L R x ρ ↔ Join e (L ρ) (Spans m e w L R x' σ)
    step_before true n = (
      λ y. ⊎_elim (λ z. absurd (n z.0)) (λ z. z) (some_split y.0 y.1 y.2 y.3 y.4),
      λ z. some_later z.0 z.1,
    )
    step_before false n = (λ y. each_rest y, λ z. each_join (λ i. absurd (n i)) z)
