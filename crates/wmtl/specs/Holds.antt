-- What holds at an observation of an endless run.
use Rattle.std.specs.Prelude.{ℕ, suc, ◌≤◌, true, false, ◌⊎◌, ◌≡◌, ⊤}
use Rattle.gauge.specs.Meaning.{Meaning}
use Rattle.wmtl.specs.Formula.{Formula, Operands, Timed, mark, not_mark, all, any, next, timed, none, more, until, release, eventually, always}
use Rattle.wmtl.specs.Run.{Endless, has, InWindow, Throughout, Earlier}

module _ (m : Meaning) where
  abbrev mutual
    -- the formula holds at observation i
    pub Holds : Formula → Endless → ℕ → Type 0
    Holds (mark k) ω i = has k (ω i).marks ≡ true
    Holds (not_mark k) ω i = has k (ω i).marks ≡ false
    Holds (all fs) ω i = EachHolds fs ω i
    Holds (any fs) ω i = SomeHolds fs ω i
    Holds (next f) ω i = Holds f ω (suc i)
    Holds (timed t) ω i = TimedHolds t ω i

    -- each of the operands holds
    pub EachHolds : Operands → Endless → ℕ → Type 0
    EachHolds none ω i = ⊤
    EachHolds (more f fs) ω i = Holds f ω i × EachHolds fs ω i

    -- some of the operands holds
    pub SomeHolds : Operands → Endless → ℕ → Type 0
    SomeHolds none ω i = ⊥
    SomeHolds (more f fs) ω i = Holds f ω i ⊎ SomeHolds fs ω i

    -- until and eventually ask for some j in the window, release and always speak of each;
    -- the left side is asked before j only
    pub TimedHolds : Timed → Endless → ℕ → Type 0
    TimedHolds (until w l r) ω i =
        (j : ℕ) × (i ≤ j) × InWindow m w ω i j × Holds r ω j × Throughout (Holds l ω) i j
    TimedHolds (release w l r) ω i = (j : ℕ) → i ≤ j → InWindow m w ω i j → Holds r ω j ⊎ Earlier (Holds l ω) i j
    TimedHolds (eventually w r) ω i = (j : ℕ) × (i ≤ j) × InWindow m w ω i j × Holds r ω j
    TimedHolds (always w r) ω i = (j : ℕ) → i ≤ j → InWindow m w ω i j → Holds r ω j
