-- The meanings of the gauges that stand alone. Each treats every clock alike.
use Rattle.std.specs.Prelude.{◌≡◌, ℕ, ◌+◌, ◌-◌, ◌^◌, ◌≤◌, min, max, bit_or, count_ones}
use Rattle.gauge.specs.Meaning.{Fits, Meaning}

-- from 0 on, one operation adds and joins; `reading` is what a number reads
abbrev pub plain : (ℕ → ℕ → ℕ) → (ℕ → ℕ) → Meaning
plain operation reading = record {
  start = λ c. 0;
  add = λ c t a. operation t a;
  read = λ c t. reading t;
  join = λ c a b. operation a b;
}

-- addition that stays at the largest number of 64 bits
abbrev pub saturated : ℕ → ℕ → ℕ
saturated a b = min (a + b) (2 ^ 64 - 1)

-- adds up, and reads the total
abbrev pub sum : Meaning
sum = plain saturated (λ t. t)

-- keeps the larger, and reads it
abbrev pub peak : Meaning
peak = plain max (λ t. t)

-- collects set bits, and reads how many there are
abbrev pub channels : Meaning
channels = plain bit_or count_ones

-- three in a row give the same, however they are grouped
abbrev pub Associative : (ℕ → ℕ → ℕ) → Type 0
Associative f = (a b c : ℕ) → f (f a b) c ≡ f a (f b c)

-- what an operation and a reading need, to make a gauge that keeps the laws: 64 bits stay 64 bits, 0 reads 0,
-- the operation never lowers the reading, and three in a row give the same
pub record KeepsLaws (operation : ℕ → ℕ → ℕ) (reading : ℕ → ℕ) : Type 0 where
  pub fits : (a b : ℕ) → Fits a → Fits b → Fits (operation a b)
  pub reads : (a : ℕ) → Fits a → Fits (reading a)
  pub zero_reads_zero : reading 0 ≡ 0
  pub rises : (a b : ℕ) → Fits a → Fits b → reading a ≤ reading (operation a b)
  pub assoc : Associative operation

-- saturating addition never falls below a number of 64 bits that it starts from
abbrev pub SumNeverFalls : Type 0
SumNeverFalls = (a b : ℕ) → Fits a → a ≤ saturated a b

-- a union never has fewer channels than a set that it is made of
abbrev pub CountNeverFalls : Type 0
CountNeverFalls = (a b : ℕ) → count_ones a ≤ count_ones (bit_or a b)
