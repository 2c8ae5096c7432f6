-- The gauges that stand alone keep the laws.
use Rattle.std.specs.Prelude.{ℕ, max, bit_or, count_ones, refl}
use Rattle.std.proofs.Common.{arith, lit<}
use Rattle.std.proofs.lemmas.Nat.{or_lt, ones-le}
use Rattle.std.specs.Int.Count.{ones}
use Rattle.gauge.specs.Meaning.{Lawful}
use Rattle.gauge.specs.Plain.{plain, saturated, sum, peak, channels, KeepsLaws, Associative, SumNeverFalls}
use Rattle.gauge.specs.Union.{ones_or_le, or_assoc}

-- an operation and a reading that keep the laws make a gauge that keeps them
pub plain_lawful : {operation : ℕ → ℕ → ℕ} {reading : ℕ → ℕ} → KeepsLaws operation reading → Lawful (plain operation reading)
plain_lawful k = record {
  start_fits = λ c. lit< tt;
  add_fits = λ c. k.fits;
  read_fits = λ c. k.reads;
  join_fits = λ c. k.fits;
  starts_at_zero = λ c. k.zero_reads_zero;
  rises = λ c. k.rises;
  joins = λ c t a b p q r. k.assoc t a b;
}

-- saturating addition is associative
pub saturated_assoc : Associative saturated
saturated_assoc a b c = omega arith

-- saturating addition never falls
pub saturated_rises : SumNeverFalls
saturated_rises a b h = omega arith

-- the larger of three does not depend on the grouping
pub max_assoc : Associative max
max_assoc a b c = omega arith

pub sum_keeps_laws : KeepsLaws saturated (λ t. t)
sum_keeps_laws = record {
  fits = λ a b p q. omega arith;
  reads = λ a p. p;
  zero_reads_zero = refl;
  rises = λ a b p q. saturated_rises a b p;
  assoc = saturated_assoc;
}

pub peak_keeps_laws : KeepsLaws max (λ t. t)
peak_keeps_laws = record {
  fits = λ a b p q. omega arith;
  reads = λ a p. p;
  zero_reads_zero = refl;
  rises = λ a b p q. omega arith;
  assoc = max_assoc;
}

pub channels_keeps_laws : KeepsLaws bit_or count_ones
unfolding ones
channels_keeps_laws = record {
  fits = or_lt 64;
  reads = λ a p. omega (arith, ones-le 64 a p);
  zero_reads_zero = refl;
  rises = λ a b p q. ones_or_le a b;
  assoc = or_assoc;
}

pub sum_lawful : Lawful sum
sum_lawful = plain_lawful sum_keeps_laws

pub peak_lawful : Lawful peak
peak_lawful = plain_lawful peak_keeps_laws

pub channels_lawful : Lawful channels
channels_lawful = plain_lawful channels_keeps_laws
