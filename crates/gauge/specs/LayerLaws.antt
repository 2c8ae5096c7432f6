-- A layer over gauges that keep the laws keeps them too.
use Rattle.std.specs.Prelude.{ℕ, ◌/◌, ◌≤◌}
use Rattle.std.proofs.Common.{ap, ◌∙◌, div-le_self, lt_of_le_of_lt, mul-le-mul_right, rules}
use Rattle.std.proofs.Math.Nat.{zero-div}
use Rattle.std.specs.Float.Ieee.Nearest.{div_mono}
use Rattle.gauge.specs.Meaning.{Meaning, Lawful}
use Rattle.gauge.specs.Layers.{split, coarse}

pub split_lawful : (border : ℕ) (first second : Meaning) → Lawful first → Lawful second → Lawful (split border first second)
split_lawful border first second l k = search rules

pub coarse_lawful : (divisor : ℕ) (below : Meaning) → 1 ≤ divisor → Lawful below → Lawful (coarse divisor below)
coarse_lawful divisor below positive l = record {
  start_fits = l.start_fits;
  add_fits = l.add_fits;
  read_fits = λ c t p. lt_of_le_of_lt (div-le_self (below.read c t) divisor) (l.read_fits c t p);
  join_fits = l.join_fits;
  starts_at_zero = λ c. ap (λ (n : ℕ). n / divisor) (l.starts_at_zero c) ∙ zero-div divisor;
  rises = λ c t a p q.
      div_mono (below.read c t) divisor (below.read c (below.add c t a)) divisor positive positive
      (mul-le-mul_right divisor (l.rises c t a p q));
  joins = l.joins;
}
