-- What a gauge means, and the laws that every gauge keeps.
use Rattle.std.specs.Prelude.{◌≡◌, ℕ, ◌^◌, ◌<◌, ◌≤◌}

-- a number of 64 bits
abbrev pub Fits : ℕ → Type 0
Fits n = n < 2 ^ 64

-- for each clock: the starting number, a number with an amount added, the reading of a number, two amounts joined
pub record Meaning : Type 0 where
  pub start : ℕ → ℕ
  pub add : ℕ → ℕ → ℕ → ℕ
  pub read : ℕ → ℕ → ℕ
  pub join : ℕ → ℕ → ℕ → ℕ

-- for every clock: answers have 64 bits, the starting number reads 0, adding never lowers the reading,
-- and adding two amounts in turn is adding the two joined
pub record Lawful (m : Meaning) : Type 0 where
  pub start_fits : (c : ℕ) → Fits (m.start c)
  pub add_fits : (c t a : ℕ) → Fits t → Fits a → Fits (m.add c t a)
  pub read_fits : (c t : ℕ) → Fits t → Fits (m.read c t)
  pub join_fits : (c a b : ℕ) → Fits a → Fits b → Fits (m.join c a b)
  pub starts_at_zero : (c : ℕ) → m.read c (m.start c) ≡ 0
  pub rises : (c t a : ℕ) → Fits t → Fits a → m.read c t ≤ m.read c (m.add c t a)
  pub joins : (c t a b : ℕ) → Fits t → Fits a → Fits b → m.add c (m.add c t a) b ≡ m.add c t (m.join c a b)
