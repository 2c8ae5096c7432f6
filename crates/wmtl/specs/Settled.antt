-- What a run so far settles, at an observation of it, whatever comes later.
use Rattle.std.specs.Prelude.{ℕ, suc, ◌≤◌, ◌<◌, true, false, ◌⊎◌, ◌≡◌, length, ⊤}
use Rattle.gauge.specs.Meaning.{Meaning}
use Rattle.wmtl.specs.Formula.{Window, Formula, Operands, Timed, mark, not_mark, all, any, next, timed, none, more, until, release, eventually, always}
use Rattle.wmtl.specs.Run.{Run, at, has, InWindow, past_window, Throughout, Earlier}

module _ (m : Meaning) where
  -- some observation j from i on lies in the window and has R, and each k from i to before j has L
  abbrev pub SomePoint : Window → (ℕ → Type 0) → (ℕ → Type 0) → Run → ℕ → Type 0
  SomePoint w L R ρ i =
      (j : ℕ) × (i ≤ j) × (j < length ρ) × InWindow m w (at ρ) i j × R j × Throughout L i j

  -- each observation j from i on that lies in the window has R, or some k from i to before j has L; and no later
  -- observation can matter: the window is past, or some k from i on has L
  abbrev pub EachPoint : Window → (ℕ → Type 0) → (ℕ → Type 0) → Run → ℕ → Type 0
  EachPoint w L R ρ i =
      ((j : ℕ) → i ≤ j → j < length ρ → InWindow m w (at ρ) i j → R j ⊎ Earlier L i j)
      × ((past_window m w (at ρ) i (length ρ) ≡ true) ⊎ Earlier L i (length ρ))

  abbrev mutual
    -- the formula is settled true at observation i
    pub SettledTrue : Formula → Run → ℕ → Type 0
    SettledTrue (mark k) ρ i = (i < length ρ) × (has k (at ρ i).marks ≡ true)
    SettledTrue (not_mark k) ρ i = (i < length ρ) × (has k (at ρ i).marks ≡ false)
    SettledTrue (all fs) ρ i = (i < length ρ) × EachTrue fs ρ i
    SettledTrue (any fs) ρ i = (i < length ρ) × SomeTrue fs ρ i
    SettledTrue (next f) ρ i = (i < length ρ) × SettledTrue f ρ (suc i)
    SettledTrue (timed t) ρ i = (i < length ρ) × TimedTrue t ρ i

    -- each of the operands is settled true
    pub EachTrue : Operands → Run → ℕ → Type 0
    EachTrue none ρ i = ⊤
    EachTrue (more f fs) ρ i = SettledTrue f ρ i × EachTrue fs ρ i

    -- some of the operands is settled true
    pub SomeTrue : Operands → Run → ℕ → Type 0
    SomeTrue none ρ i = ⊥
    SomeTrue (more f fs) ρ i = SettledTrue f ρ i ⊎ SomeTrue fs ρ i

    -- eventually is until with a left side settled true throughout, always is release with one settled false throughout
    pub TimedTrue : Timed → Run → ℕ → Type 0
    TimedTrue (until w l r) ρ i = SomePoint w (SettledTrue l ρ) (SettledTrue r ρ) ρ i
    TimedTrue (release w l r) ρ i = EachPoint w (SettledTrue l ρ) (SettledTrue r ρ) ρ i
    TimedTrue (eventually w r) ρ i = SomePoint w (λ k. ⊤) (SettledTrue r ρ) ρ i
    TimedTrue (always w r) ρ i = EachPoint w (λ k. ⊥) (SettledTrue r ρ) ρ i

  abbrev mutual
    -- the formula is settled false at observation i
    pub SettledFalse : Formula → Run → ℕ → Type 0
    SettledFalse (mark k) ρ i = (i < length ρ) × (has k (at ρ i).marks ≡ false)
    SettledFalse (not_mark k) ρ i = (i < length ρ) × (has k (at ρ i).marks ≡ true)
    SettledFalse (all fs) ρ i = (i < length ρ) × SomeFalse fs ρ i
    SettledFalse (any fs) ρ i = (i < length ρ) × EachFalse fs ρ i
    SettledFalse (next f) ρ i = (i < length ρ) × SettledFalse f ρ (suc i)
    SettledFalse (timed t) ρ i = (i < length ρ) × TimedFalse t ρ i

    -- each of the operands is settled false
    pub EachFalse : Operands → Run → ℕ → Type 0
    EachFalse none ρ i = ⊤
    EachFalse (more f fs) ρ i = SettledFalse f ρ i × EachFalse fs ρ i

    -- some of the operands is settled false
    pub SomeFalse : Operands → Run → ℕ → Type 0
    SomeFalse none ρ i = ⊥
    SomeFalse (more f fs) ρ i = SettledFalse f ρ i ⊎ SomeFalse fs ρ i

    -- as settled true, with true and false exchanged throughout
    pub TimedFalse : Timed → Run → ℕ → Type 0
    TimedFalse (until w l r) ρ i = EachPoint w (SettledFalse l ρ) (SettledFalse r ρ) ρ i
    TimedFalse (release w l r) ρ i = SomePoint w (SettledFalse l ρ) (SettledFalse r ρ) ρ i
    TimedFalse (eventually w r) ρ i = EachPoint w (λ k. ⊥) (SettledFalse r ρ) ρ i
    TimedFalse (always w r) ρ i = SomePoint w (λ k. ⊤) (SettledFalse r ρ) ρ i

-- what is said of a rule: true, false, or neither yet
pub data Verdict : Type 0 where
  verdict_true verdict_false undecided : Verdict

-- the verdict on a rule that a run so far settles, at its first observation
abbrev pub Settled : Meaning → Formula → Run → Verdict → Type 0
Settled m f ρ verdict_true = SettledTrue m f ρ 0
Settled m f ρ verdict_false = SettledFalse m f ρ 0
Settled m f ρ undecided = ¬ SettledTrue m f ρ 0 × ¬ SettledFalse m f ρ 0
