-- What is settled at the first observation of the run to come: v is true for settled true, false for settled false.
use Prim.Native.Nat.{ℕ}
use mathlib.Core.Bool.{Bool, true, false, not}
use mathlib.Core.List.{[], ◌∷◌}
use lib.Dec.{T}
use Rattle.gauge.specs.Meaning.{Meaning}
use Rattle.wmtl.specs.Formula.{Formula, Operands, Timed, mark, not_mark, all, any, next, timed, none, more, until, release, eventually, always}
use Rattle.wmtl.specs.Run.{Step, Run, has}
use Rattle.wmtl.specs.Residual.{window_of}
use Rattle.wmtl.proofs.Polarity.{same, Join}
use Rattle.wmtl.proofs.Spans.{Spans}

-- there is an observation; and P of it and what follows
abbrev pub Seen : Run → Type 0
Seen [] = ⊥
Seen (s ∷ σ) = Unit {0}

abbrev pub First : (Step → Run → Type 0) → Run → Type 0
First P [] = ⊥
First P (s ∷ σ) = P s σ

module _ (m : Meaning) where
  abbrev mutual
    pub Sat : Bool → Formula → Run → Type 0
    Sat v (mark k) = First (λ s σ. T (same v (has k s.marks)))
    Sat v (not_mark k) = First (λ s σ. T (same v (not (has k s.marks))))
    Sat v (all fs) = λ σ. Seen σ × Sats v true fs σ
    Sat v (any fs) = λ σ. Seen σ × Sats v false fs σ
    Sat v (next f) = First (λ s σ. Sat v f σ)
    Sat v (timed t) = λ σ. Seen σ × SatTimed v t (m.start (window_of t).clock) σ

    -- the operands of all, where q is true, or of any
    pub Sats : Bool → Bool → Operands → Run → Type 0
    Sats v q none = λ σ. T (same v q)
    Sats v q (more f fs) = λ σ. Join (same v q) (Sat v f σ) (Sats v q fs σ)

    -- until, and eventually with the constant true on its left; release, and always with the constant false there.
    -- x is the number of the window's clock as the run to come begins
    pub SatTimed : Bool → Timed → ℕ → Run → Type 0
    SatTimed v (until w l r) x = Spans m (same v true) w (Sat v l) (Sat v r) x
    SatTimed v (release w l r) x = Spans m (same v false) w (Sat v l) (Sat v r) x
    SatTimed v (eventually w r) x = Spans m (same v true) w (λ σ. T (same v true)) (Sat v r) x
    SatTimed v (always w r) x = Spans m (same v false) w (λ σ. T (same v false)) (Sat v r) x
