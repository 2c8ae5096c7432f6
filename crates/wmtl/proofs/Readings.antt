-- Numbers of a lawful gauge keep their 64 bits, and their readings never fall.
use Prim.Native.Nat.{ℕ, zero, suc, ◌≤◌}
use mathlib.Core.Bool.{Bool, true, false, cond}
use mathlib.Core.List.{List, [], ◌∷◌}
use native.Mathlib.Nat.{le_trans, le_refl}
use lib.Dec.{eqb}
use Rattle.gauge.specs.Meaning.{Meaning, Lawful, Fits}
use Rattle.wmtl.specs.Formula.{Window}
use Rattle.wmtl.specs.Run.{Advance, Run, Endless, at, AmountsFit, RunFits, added, added_all, total}

module _ (m : Meaning) where
  -- the number of a clock after the first j steps of a run
  abbrev pub after : ℕ → ℕ → ℕ → Run → ℕ
  after c x zero σ = x
  after c x (suc j) [] = x
  after c x (suc j) (s ∷ σ) = after c (added_all m c x s.advances) j σ

  -- the reading of a window's clock there
  abbrev pub reading_after : Window → ℕ → ℕ → Run → ℕ
  reading_after w x j σ = m.read w.clock (after w.clock x j σ)

  -- y has 64 bits and reads no less than x
  abbrev pub Risen : ℕ → ℕ → ℕ → Type 0
  Risen c x y = Fits y × (m.read c x ≤ m.read c y)

module _ (m : Meaning) (law : Lawful m) (c : ℕ) where
  -- what rises from y on rises from x on, where y has risen from x
  on_from : (x y z : ℕ) → Risen m c x y → (Fits y → Risen m c y z) → Risen m c x z
  on_from x y z h k = let r = k h.0 in (r.0, le_trans h.1 r.1)

  added_rises : (x : ℕ) (a : Advance) → Fits x → Fits a.amount → Risen m c x (added m c x a)
  added_rises x a h k = go (eqb a.clock c)
    where
      go : (b : Bool) → Risen m c x (cond b (m.add c x a.amount) x)
      go true = (law.add_fits c x a.amount h k, law.rises c x a.amount h k)
      go false = (h, le_refl _)

  pub added_all_rises : (x : ℕ) (xs : List Advance) → Fits x → AmountsFit xs → Risen m c x (added_all m c x xs)
  added_all_rises x [] h k = (h, le_refl _)
  added_all_rises x (a ∷ xs) h k =
      on_from x (added m c x a) _ (added_rises x a h k.0) (λ f. added_all_rises (added m c x a) xs f k.1)

  pub after_rises : (x j : ℕ) (σ : Run) → Fits x → RunFits (at σ) → Risen m c x (after m c x j σ)
  after_rises x zero σ h k = (h, le_refl _)
  after_rises x (suc j) [] h k = (h, le_refl _)
  after_rises x (suc j) (s ∷ σ) h k =
      let y = added_all m c x s.advances in
      on_from x y _ (added_all_rises x s.advances h (k zero)) (λ f. after_rises y j σ f (λ i. k (suc i)))

  pub total_rises : (ω : Endless) (x i d : ℕ) → Fits x → RunFits ω → Risen m c x (total m c ω x i d)
  total_rises ω x i zero h k = (h, le_refl _)
  total_rises ω x i (suc d) h k =
      let y = added_all m c x (ω i).advances in
      on_from x y _ (added_all_rises x (ω i).advances h (k i)) (λ f. total_rises ω y (suc i) d f k)
