-- Where a run so far is long enough to decide a formula, whatever its marks are.
use Rattle.std.specs.Prelude.{ℕ, suc, ◌≤◌, ◌<◌, true, false, ◌≡◌, length, ⊤}
use Rattle.gauge.specs.Meaning.{Meaning}
use Rattle.wmtl.specs.Formula.{Window, Formula, Operands, Timed, mark, not_mark, all, any, next, timed, none, more, until, release, eventually, always}
use Rattle.wmtl.specs.Run.{Run, at, past_window}

module _ (m : Meaning) where
  -- the window that opened at i is past, and P is so at each observation from i on where it was not past yet
  abbrev pub Through : Window → (ℕ → Type 0) → Run → ℕ → Type 0
  Through w P ρ i =
      (past_window m w (at ρ) i (length ρ) ≡ true)
      × ((j : ℕ) → i ≤ j → j < length ρ → past_window m w (at ρ) i j ≡ false → P j)

  abbrev mutual
    -- the formula is covered at observation i
    pub Covered : Formula → Run → ℕ → Type 0
    Covered (mark k) ρ i = i < length ρ
    Covered (not_mark k) ρ i = i < length ρ
    Covered (all fs) ρ i = (i < length ρ) × EachCovered fs ρ i
    Covered (any fs) ρ i = (i < length ρ) × EachCovered fs ρ i
    Covered (next f) ρ i = (i < length ρ) × Covered f ρ (suc i)
    Covered (timed t) ρ i = (i < length ρ) × TimedCovered t ρ i

    -- each of the operands is covered
    pub EachCovered : Operands → Run → ℕ → Type 0
    EachCovered none ρ i = ⊤
    EachCovered (more f fs) ρ i = Covered f ρ i × EachCovered fs ρ i

    -- the window is past, and the operands are covered wherever it was not past yet
    pub TimedCovered : Timed → Run → ℕ → Type 0
    TimedCovered (until w l r) ρ i = Through w (λ j. Covered l ρ j × Covered r ρ j) ρ i
    TimedCovered (release w l r) ρ i = Through w (λ j. Covered l ρ j × Covered r ρ j) ρ i
    TimedCovered (eventually w r) ρ i = Through w (Covered r ρ) ρ i
    TimedCovered (always w r) ρ i = Through w (Covered r ρ) ρ i
