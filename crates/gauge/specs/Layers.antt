-- The meanings of the layers: gauges made of other gauges.
use Rattle.std.specs.Prelude.{ℕ, ◌-◌, ◌/◌, ◌≤◌, if◌then◌else◌, nat_lt}
use Rattle.gauge.specs.Meaning.{Meaning}

-- a border is 0 to 8
abbrev pub IsBorder : ℕ → Type 0
IsBorder border = border ≤ 8

-- a divisor is 1 to 1,000,000
abbrev pub IsDivisor : ℕ → Type 0
IsDivisor divisor = (1 ≤ divisor) × (divisor ≤ 1000000)

-- the first gauge has the clocks below the border, the second has the others under their number less the border
abbrev pub split : ℕ → Meaning → Meaning → Meaning
split border first second = record {
  start = λ c. if nat_lt c border then first.start c else second.start (c - border);
  add = λ c t a. if nat_lt c border then first.add c t a else second.add (c - border) t a;
  read = λ c t. if nat_lt c border then first.read c t else second.read (c - border) t;
  join = λ c a b. if nat_lt c border then first.join c a b else second.join (c - border) a b;
}

-- the reading below, divided with the fraction dropped; everything else as below
abbrev pub coarse : ℕ → Meaning → Meaning
coarse divisor below = record {
  start = below.start;
  add = below.add;
  read = λ c t. below.read c t / divisor;
  join = below.join;
}
