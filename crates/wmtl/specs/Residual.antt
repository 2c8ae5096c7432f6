-- The rewriting: what is left of a formula after some events, as a term.
use Rattle.std.specs.Prelude.{ℕ, ◌+◌, if◌then◌else◌, List, [], ◌∷◌, ◌==◌, ⊤}
use Rattle.gauge.specs.Meaning.{Meaning, Fits}
use Rattle.wmtl.specs.Formula.{Window, Formula, Operands, Timed, mark, not_mark, all, any, next, timed, none, more, until, release, eventually, always, before, past}
use Rattle.wmtl.specs.Run.{Advance, Event, observe, advance, has}
use Rattle.wmtl.specs.Settled.{Verdict, verdict_true, verdict_false, undecided}

-- what is left of a formula: true, false, fresh (to be asked at the next observation), waiting (its window is open, and
-- this is its clock's number so far), both of two terms, or either of two terms
pub data Term : Type 0 where
  is_true is_false : Term
  fresh : Formula → Term
  waiting : Timed → ℕ → Term
  both either : Term → Term → Term

-- the cells of a term: each part other than true and false is one
abbrev pub cells : Term → ℕ
cells is_true = 0
cells is_false = 0
cells (fresh f) = 1
cells (waiting t x) = 1
cells (both t u) = 1 + (cells t + cells u)
cells (either t u) = 1 + (cells t + cells u)

-- the verdict that a term gives
abbrev pub verdict : Term → Verdict
verdict is_true = verdict_true
verdict is_false = verdict_false
verdict _ = undecided

-- the numbers inside a term have 64 bits
abbrev pub NumbersFit : Term → Type 0
NumbersFit (waiting t x) = Fits x
NumbersFit (both t u) = NumbersFit t × NumbersFit u
NumbersFit (either t u) = NumbersFit t × NumbersFit u
NumbersFit _ = ⊤

-- both, simplified, of a first term that is no constant and a second term
abbrev pub both_open : Term → Term → Term
both_open t is_true = t
both_open t is_false = is_false
both_open t u = both t u

-- both, simplified: with false it is false, with true it is the other term
abbrev pub both_of : Term → Term → Term
both_of is_true u = u
both_of is_false u = is_false
both_of t u = both_open t u

-- either, simplified, of a first term that is no constant and a second term
abbrev pub either_open : Term → Term → Term
either_open t is_true = is_true
either_open t is_false = t
either_open t u = either t u

-- either, simplified: with true it is true, with false it is the other term
abbrev pub either_of : Term → Term → Term
either_of is_true u = is_true
either_of is_false u = u
either_of t u = either_open t u

-- the window of a formula that has one
abbrev pub window_of : Timed → Window
window_of (until w l r) = w
window_of (release w l r) = w
window_of (eventually w r) = w
window_of (always w r) = w

-- what a waiting formula becomes once it is past its window
abbrev pub expired : Timed → Term
expired (until w l r) = is_false
expired (release w l r) = is_true
expired (eventually w r) = is_false
expired (always w r) = is_true

module _ (m : Meaning) where
  -- a waiting formula at a new number of its clock
  abbrev pub waiting_at : Timed → ℕ → Term
  waiting_at t x = if past (window_of t) (m.read (window_of t).clock x) then expired t else waiting t x

  -- a waiting formula after an advance, which counts if it is of its clock
  abbrev pub waiting_advanced : Advance → Timed → ℕ → Term
  waiting_advanced a t x =
      if a.clock == (window_of t).clock
      then waiting_at t (m.add (window_of t).clock x a.amount)
      else waiting t x

  -- what an advance makes of a term
  abbrev pub advanced : Advance → Term → Term
  advanced a is_true = is_true
  advanced a is_false = is_false
  advanced a (fresh f) = fresh f
  advanced a (waiting t x) = waiting_advanced a t x
  advanced a (both t u) = both_of (advanced a t) (advanced a u)
  advanced a (either t u) = either_of (advanced a t) (advanced a u)

  -- the first where the number reads less than the window's lower end, else the second
  abbrev pub if_before : Window → ℕ → Term → Term → Term
  if_before w x t u = if before w (m.read w.clock x) then t else u

  abbrev mutual
    -- what an observation of the marks s makes of a fresh formula
    pub fresh_observed : ℕ → Formula → Term
    fresh_observed s (mark k) = if has k s then is_true else is_false
    fresh_observed s (not_mark k) = if has k s then is_false else is_true
    fresh_observed s (all fs) = all_observed s fs
    fresh_observed s (any fs) = any_observed s fs
    fresh_observed s (next f) = fresh f
    fresh_observed s (timed t) = waiting_observed s t (m.start (window_of t).clock)

    -- both over what the operands become, in order, grouped from the right
    pub all_observed : ℕ → Operands → Term
    all_observed s none = is_true
    all_observed s (more f fs) = both_of (fresh_observed s f) (all_observed s fs)

    -- either over what the operands become, in order, grouped from the right
    pub any_observed : ℕ → Operands → Term
    any_observed s none = is_false
    any_observed s (more f fs) = either_of (fresh_observed s f) (any_observed s fs)

    -- what it makes of a waiting formula with the number x of its clock
    pub waiting_observed : ℕ → Timed → ℕ → Term
    waiting_observed s (until w l r) x =
        if_before w x
        (both_of (fresh_observed s l) (waiting (until w l r) x))
        (either_of (fresh_observed s r) (both_of (fresh_observed s l) (waiting (until w l r) x)))
    waiting_observed s (release w l r) x =
        if_before w x
        (either_of (fresh_observed s l) (waiting (release w l r) x))
        (both_of (fresh_observed s r) (either_of (fresh_observed s l) (waiting (release w l r) x)))
    waiting_observed s (eventually w r) x =
        if_before w x (waiting (eventually w r) x) (either_of (fresh_observed s r) (waiting (eventually w r) x))
    waiting_observed s (always w r) x =
        if_before w x (waiting (always w r) x) (both_of (fresh_observed s r) (waiting (always w r) x))

  -- what an observation of the marks s makes of a term
  abbrev pub observed : ℕ → Term → Term
  observed s is_true = is_true
  observed s is_false = is_false
  observed s (fresh f) = fresh_observed s f
  observed s (waiting t x) = waiting_observed s t x
  observed s (both t u) = both_of (observed s t) (observed s u)
  observed s (either t u) = either_of (observed s t) (observed s u)

  -- what an event makes of a term
  abbrev pub rewritten : Event → Term → Term
  rewritten (observe s) t = observed s t
  rewritten (advance a) t = advanced a t

  -- what some events, in order, make of a term
  abbrev pub rewritten_all : List Event → Term → Term
  rewritten_all [] t = t
  rewritten_all (e ∷ es) t = rewritten_all es (rewritten e t)

  -- what is left of a formula after some events
  abbrev pub residual : Formula → List Event → Term
  residual f es = rewritten_all es (fresh f)
