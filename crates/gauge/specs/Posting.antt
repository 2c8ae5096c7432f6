-- What a list of amounts posted to one clock comes to, and what holds of it on every gauge.
use Rattle.std.specs.Prelude.{◌≡◌, ℕ, ◌≤◌, List, [], ◌∷◌, fold, All}
use Rattle.gauge.specs.Meaning.{Fits, Meaning}

-- number t with the amounts added in order, from the first to the last
abbrev pub added : Meaning → ℕ → ℕ → List ℕ → ℕ
added m c t amounts = fold (m.add c) t amounts

-- amount a joined with the amounts in order
abbrev pub joined : Meaning → ℕ → ℕ → List ℕ → ℕ
joined m c a amounts = fold (m.join c) a amounts

-- number t with the amounts posted as one, all joined; t itself where there are none
abbrev pub added_joined : Meaning → ℕ → ℕ → List ℕ → ℕ
added_joined m c t [] = t
added_joined m c t (a ∷ amounts) = m.add c t (joined m c a amounts)

-- what the amounts, posted in order from the start, read
abbrev pub reading : Meaning → ℕ → List ℕ → ℕ
reading m c amounts = m.read c (added m c (m.start c) amounts)

-- what the amounts, posted as one from the start, read
abbrev pub reading_joined : Meaning → ℕ → List ℕ → ℕ
reading_joined m c amounts = m.read c (added_joined m c (m.start c) amounts)

-- r is number t with the amounts added in order; it reads no less than t, and the amounts joined give it too
pub record Posted (m : Meaning) (c t : ℕ) (amounts : List ℕ) (r : ℕ) : Type 0 where
  pub in_order : r ≡ added m c t amounts
  pub never_falls : m.read c t ≤ m.read c r
  pub as_joined : r ≡ added_joined m c t amounts

-- r is amount a joined with the amounts; adding it to any number gives what adding them all in order gives
pub record Joined (m : Meaning) (c a : ℕ) (amounts : List ℕ) (r : ℕ) : Type 0 where
  pub in_order : r ≡ joined m c a amounts
  pub as_added : (t : ℕ) → Fits t → m.add c t r ≡ added m c t (a ∷ amounts)

-- amounts added in order never lower the reading
abbrev pub ReadingNeverFalls : Meaning → Type 0
ReadingNeverFalls m =
    (c t : ℕ) (amounts : List ℕ) → Fits t → All Fits amounts → m.read c t ≤ m.read c (added m c t amounts)

-- amounts added in order give the number that adding them joined gives
abbrev pub JoinedIsTheSame : Meaning → Type 0
JoinedIsTheSame m =
    (c t : ℕ) (amounts : List ℕ) → Fits t → All Fits amounts → added m c t amounts ≡ added_joined m c t amounts
