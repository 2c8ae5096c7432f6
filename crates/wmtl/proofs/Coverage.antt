-- A covered formula is settled one way or the other.
use Prim.Native.Nat.{ℕ, zero, suc, ◌+◌, ◌<◌}
use mathlib.Core.Path.{◌≡◌, refl, subst, sym}
use mathlib.Core.List.{[], ◌∷◌}
use mathlib.Core.Bool.{Bool, true, false, not}
use mathlib.Core.Logic.{◌⊎◌, inl, inr}
use native.Mathlib.Omega.{arith}
use lib.ListN.{length, drop, length-drop}
use Rattle.std.proofs.Math.Logic.{⊎_map, ⊎_swap}
use Rattle.gauge.specs.Meaning.{Meaning, Lawful, Fits}
use Rattle.wmtl.specs.Formula.{Window, Formula, Operands, Timed, mark, not_mark, all, any, next, timed, none, more, until, release, eventually, always, past, Inside}
use Rattle.wmtl.specs.Run.{Step, Run, at, has, RunFits, added_all}
use Rattle.wmtl.specs.Covered.{Through, Covered, EachCovered, TimedCovered}
use Rattle.wmtl.specs.Residual.{window_of}
use Rattle.wmtl.proofs.Polarity.{flag_or, joins_or}
use Rattle.wmtl.proofs.Windows.{dec_inside}
use Rattle.wmtl.proofs.Readings.{reading_after, added_all_rises}
use Rattle.wmtl.proofs.Spans.{Spans, past_spans, step_inside, step_before}
use Rattle.wmtl.proofs.Suffix.{Seen, First, Sat, Sats, SatTimed}
use Rattle.wmtl.proofs.Index.{first_at, seen_at, amount_to_end, amount_on, on}

drop_fits : (ρ : Run) (i : ℕ) → RunFits (at ρ) → RunFits (at (drop i ρ))
drop_fits [] zero h = h
drop_fits [] (suc i) h = h
drop_fits (s ∷ ρ) zero h = h
drop_fits (s ∷ ρ) (suc i) h = drop_fits ρ i (λ k. h (suc k))

module _ (m : Meaning) (law : Lawful m) where
  -- L and R are settled one way, L' and R' the other
  module _ (w : Window) (L L' R R' : Run → Type 0) where
    abbrev One : Run → Type 0
    One σ = (L σ ⊎ L' σ) × (R σ ⊎ R' σ)

    step_or : (x : ℕ) (s : Step) (σ : Run) → One (s ∷ σ)
        → Spans m true w L R (added_all m w.clock x s.advances) σ
        ⊎ Spans m false w L' R' (added_all m w.clock x s.advances) σ
        → Dec (Inside w (m.read w.clock x)) → Spans m true w L R x (s ∷ σ) ⊎ Spans m false w L' R' x (s ∷ σ)
    step_or x s σ d rest (yes i) =
        ⊎_map (step_inside m w L R x s σ true i).1 (step_inside m w L' R' x s σ false i).1
        (joins_or false d.1 (joins_or true d.0 rest))
    step_or x s σ d rest (no n) =
        ⊎_map (step_before m w L R x s σ true n).1 (step_before m w L' R' x s σ false n).1 (joins_or true d.0 rest)

    spans_or : (x : ℕ) (σ : Run) → Fits x → RunFits (at σ)
        → past w (reading_after m w x (length σ) σ) ≡ true
        → ((j : ℕ) → j < length σ → past w (reading_after m w x j σ) ≡ false → One (drop j σ))
        → Spans m true w L R x σ ⊎ Spans m false w L' R' x σ
    spans_or x [] fx fσ over h = inr ((past_spans m w L' R' law false x [] fx fσ over).1 tt)
    spans_or x (s ∷ σ) fx fσ over h =
        let y = added_all m w.clock x s.advances in
        let fy = (added_all_rises m law w.clock x s.advances fx (fσ zero)).0 in
        go (past w (m.read w.clock x)) refl
        (spans_or y σ fy (λ i. fσ (suc i)) over (λ j l u. h (suc j) (omega arith) u))
      where
        go : (b : Bool) → past w (m.read w.clock x) ≡ b
            → Spans m true w L R (added_all m w.clock x s.advances) σ
            ⊎ Spans m false w L' R' (added_all m w.clock x s.advances) σ
            → Spans m true w L R x (s ∷ σ) ⊎ Spans m false w L' R' x (s ∷ σ)
        go true u rest = inr ((past_spans m w L' R' law false x (s ∷ σ) fx fσ u).1 tt)
        go false u rest = step_or x s σ (h zero (omega arith) u) rest (dec_inside w (m.read w.clock x))

  module _ (ρ : Run) (fρ : RunFits (at ρ)) where
    through_or : (w : Window) (L L' R R' : Run → Type 0) (P : ℕ → Type 0) (i : ℕ)
        → ((j : ℕ) → P j → One w L L' R R' (drop j ρ)) → Through m w P ρ i
        → Spans m true w L R (m.start w.clock) (drop i ρ) ⊎ Spans m false w L' R' (m.start w.clock) (drop i ρ)
    through_or w L L' R R' P i d h =
        let e = length-drop i ρ in
        spans_or w L L' R R' (m.start w.clock) (drop i ρ) (law.start_fits w.clock) (drop_fits ρ i fρ)
        (subst (λ (n : ℕ). past w n ≡ true) (amount_to_end m ρ i w) h.0)
        (λ j l u.
        let v = subst (λ (n : ℕ). past w n ≡ false) (sym (amount_on m ρ i w j)) u in
        on m ρ i (One w L L' R R') j (d (i + j) (h.1 (i + j) (omega arith) (omega arith) v)))

    with_seen : {A B : Type 0} → (i : ℕ) → i < length ρ → A ⊎ B → (Seen (drop i ρ) × A) ⊎ (Seen (drop i ρ) × B)
    with_seen i h = let s = (seen_at ρ i).0 h in ⊎_map (λ a. (s, a)) (λ b. (s, b))

    first_or : (P Q : Step → Run → Type 0) (i : ℕ) → i < length ρ
        → P (at ρ i) (drop (suc i) ρ) ⊎ Q (at ρ i) (drop (suc i) ρ) → First P (drop i ρ) ⊎ First Q (drop i ρ)
    first_or P Q i h = ⊎_map (λ a. (first_at P ρ i).0 (h, a)) (λ b. (first_at Q ρ i).0 (h, b))

    mutual
      pub covered_or : (f : Formula) (i : ℕ) → Covered m f ρ i → Sat m true f (drop i ρ) ⊎ Sat m false f (drop i ρ)
      covered_or (mark k) i h = first_or _ _ i h (flag_or (has k (at ρ i).marks))
      covered_or (not_mark k) i h = first_or _ _ i h (flag_or (not (has k (at ρ i).marks)))
      covered_or (all fs) i h = with_seen i h.0 (each_or true fs i h.1)
      covered_or (any fs) i h = with_seen i h.0 (each_or false fs i h.1)
      covered_or (next f) i h =
          first_or (λ s σ. Sat m true f σ) (λ s σ. Sat m false f σ) i h.0 (covered_or f (suc i) h.1)
      covered_or (timed t) i h = with_seen i h.0 (timed_or t i h.1)

      each_or : (q : Bool) (fs : Operands) (i : ℕ) → EachCovered m fs ρ i
          → Sats m true q fs (drop i ρ) ⊎ Sats m false q fs (drop i ρ)
      each_or q none i h = flag_or q
      each_or q (more f fs) i h = joins_or q (covered_or f i h.0) (each_or q fs i h.1)

      timed_or : (t : Timed) (i : ℕ) → TimedCovered m t ρ i
          → SatTimed m true t (m.start (window_of t).clock) (drop i ρ)
          ⊎ SatTimed m false t (m.start (window_of t).clock) (drop i ρ)
      timed_or (until w l r) i h =
          through_or w (Sat m true l) (Sat m false l) (Sat m true r) (Sat m false r) _ i
          (λ j k. (covered_or l j k.0, covered_or r j k.1)) h
      timed_or (release w l r) i h =
          ⊎_swap
          (through_or w (Sat m false l) (Sat m true l) (Sat m false r) (Sat m true r) _ i
          (λ j k. (⊎_swap (covered_or l j k.0), ⊎_swap (covered_or r j k.1))) h)
      timed_or (eventually w r) i h =
          through_or w (λ σ. Unit {0}) (λ σ. ⊥) (Sat m true r) (Sat m false r) _ i (λ j k. (inl tt, covered_or r j k)) h
      timed_or (always w r) i h =
          ⊎_swap
          (through_or w (λ σ. Unit {0}) (λ σ. ⊥) (Sat m false r) (Sat m true r) _ i
          (λ j k. (inl tt, ⊎_swap (covered_or r j k))) h)
