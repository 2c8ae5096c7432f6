-- Runs: observations numbered from 0, with the advances posted after each, and what a clock reads between two of them.
use Rattle.std.specs.Prelude.{ℕ, zero, suc, ◌-◌, ◌/◌, ◌%◌, ◌^◌, ◌≤◌, ◌<◌, Bool, if◌then◌else◌, List, [], ◌∷◌, ◌++◌, ◌≡◌, ◌==◌, length, ⊤}
use Rattle.gauge.specs.Meaning.{Meaning, Fits}
use Rattle.wmtl.specs.Formula.{Window, past, Inside}

-- an amount posted on a clock
pub record Advance : Type 0 where
  pub clock : ℕ
  pub amount : ℕ

-- an observation, as its set of marks, and the advances posted after it and before the next one, in order
pub record Step : Type 0 where
  pub marks : ℕ
  pub advances : List Advance

-- a run so far
abbrev pub Run : Type 0
Run = List Step

-- an endless run
abbrev pub Endless : Type 0
Endless = ℕ → Step

-- the mark is in the set, which is a number in which mark k is worth 2 ^ k
unfoldable pub has : ℕ → ℕ → Bool
has mark set = (set / 2 ^ mark) % 2 == 1

-- the step at i of a run so far; beyond its end, one of no marks and no advances
abbrev pub at : Run → Endless
at [] i = record { marks = 0; advances = [] }
at (s ∷ ρ) zero = s
at (s ∷ ρ) (suc i) = at ρ i

-- what makes a run: an observation of a set of marks, or an advance
pub data Event : Type 0 where
  observe : ℕ → Event
  advance : Advance → Event

-- the advances before the first observation among some events
abbrev pub first_advances : List Event → List Advance
first_advances [] = []
first_advances (observe s ∷ es) = []
first_advances (advance a ∷ es) = a ∷ first_advances es

-- the run that some events make; advances before the first observation lie between no two observations
abbrev pub run : List Event → Run
run [] = []
run (observe s ∷ es) = record { marks = s; advances = first_advances es } ∷ run es
run (advance a ∷ es) = run es

-- the amounts of some advances have 64 bits
abbrev pub AmountsFit : List Advance → Type 0
AmountsFit [] = ⊤
AmountsFit (a ∷ xs) = Fits a.amount × AmountsFit xs

-- the amounts of all advances of a run have 64 bits; a run so far is read by `at`
abbrev pub RunFits : Endless → Type 0
RunFits ω = (i : ℕ) → AmountsFit (ω i).advances

-- the amounts of all advances among some events have 64 bits
abbrev pub EventsFit : List Event → Type 0
EventsFit [] = ⊤
EventsFit (observe s ∷ es) = EventsFit es
EventsFit (advance a ∷ es) = Fits a.amount × EventsFit es

module _ (m : Meaning) where
  -- the number x of a clock after one advance, which counts if it is of that clock
  abbrev pub added : ℕ → ℕ → Advance → ℕ
  added c x a = if a.clock == c then m.add c x a.amount else x

  -- the number x of a clock after some advances, in order
  abbrev pub added_all : ℕ → ℕ → List Advance → ℕ
  added_all c x [] = x
  added_all c x (a ∷ xs) = added_all c (added c x a) xs

  -- the number x of a clock after the advances of the d steps from i on
  abbrev pub total : ℕ → Endless → ℕ → ℕ → ℕ → ℕ
  total c ω x i zero = x
  total c ω x i (suc d) = total c ω (added_all c x (ω i).advances) (suc i) d

  -- the amount of a clock between observations i and j: the reading after what was posted between them is added, in
  -- order, to the starting number; on a run so far, where j is its length, all that was posted since i is added
  abbrev pub amount_between : ℕ → Endless → ℕ → ℕ → ℕ
  amount_between c ω i j = m.read c (total c ω (m.start c) i (j - i))

  -- observation j lies inside the window that opened at observation i
  abbrev pub InWindow : Window → Endless → ℕ → ℕ → Type 0
  InWindow w ω i j = Inside w (amount_between w.clock ω i j)

  -- at j, the window that opened at observation i is past
  abbrev pub past_window : Window → Endless → ℕ → ℕ → Bool
  past_window w ω i j = past w (amount_between w.clock ω i j)

-- P is so at each k from i to before j
abbrev pub Throughout : (ℕ → Type 0) → ℕ → ℕ → Type 0
Throughout P i j = (k : ℕ) → i ≤ k → k < j → P k

-- P is so at some k from i to before j
abbrev pub Earlier : (ℕ → Type 0) → ℕ → ℕ → Type 0
Earlier P i j = (k : ℕ) × (i ≤ k) × (k < j) × P k

-- ω continues ρ: its observations, the advances between them, and perhaps more advances after the last of them;
-- whatever then comes is free, with amounts of 64 bits
pub record Continues (ρ : Run) (ω : Endless) : Type 0 where
  pub same_marks : (i : ℕ) → i < length ρ → (ω i).marks ≡ (at ρ i).marks
  pub same_advances : (i : ℕ) → suc i < length ρ → (ω i).advances ≡ (at ρ i).advances
  pub more_advances : (i : ℕ) → suc i ≡ length ρ → (more : List Advance) × ((ω i).advances ≡ (at ρ i).advances ++ more)
  pub amounts_fit : RunFits ω
