-- The union of two sets of channels: its count, and three in a row.
use Rattle.std.specs.Prelude.{◌≡◌, ℕ, zero, ◌/◌, ◌≤◌, bit_or, refl}
use Rattle.std.proofs.Common.{ap, zero-le, arith}
use Rattle.std.proofs.Math.Arith.{bin_ind}
use Rattle.std.specs.Int.Bits.{or_step}
use Rattle.std.proofs.lemmas.Nat.{or_shr}
use Rattle.std.specs.Int.Count.{ones, ones_step}
use Rattle.gauge.specs.Plain.{Associative, CountNeverFalls}

none_le : (b : ℕ) → ones zero ≤ ones b
unfolding ones
none_le b = zero-le

-- a union has at least the channels of its first set
pub ones_or_le : CountNeverFalls
ones_or_le =
    bin_ind (λ (n : ℕ). (b : ℕ) → ones n ≤ ones (bit_or n b)) none_le
    (λ n ih b. omega (arith, ones_step n, ones_step (bit_or n b), or_step n b, ap ones (or_shr n b 1), ih (b / 2)))

-- union is associative
pub or_assoc : Associative bit_or
or_assoc =
    bin_ind (λ (n : ℕ). (b c : ℕ) → bit_or (bit_or n b) c ≡ bit_or n (bit_or b c)) (λ b c. refl)
    (λ n ih b c. omega (
      arith,
      or_step (bit_or n b) c,
      or_step n (bit_or b c),
      or_step n b,
      or_step b c,
      ih (b / 2) (c / 2),
      ap (λ (x : ℕ). bit_or x (c / 2)) (or_shr n b 1),
      ap (bit_or (n / 2)) (or_shr b c 1),
    ))
