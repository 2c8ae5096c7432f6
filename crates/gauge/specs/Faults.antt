-- What a user sees of a layer's refusal.
use Rattle.std.specs.Prelude.{ℕ, List, ◌++◌, codes, decimal}
use Rattle.gauge.specs.declared.fault.LayerFault.{LayerFault}
use Rattle.gauge.specs.declared.fault.LayerFault.TheVariants.{DivisorOutOfRange, BorderTooHigh}

-- a refusal: its number, and the value that was refused
pub record Refusal : Type 0 where
  pub number : ℕ
  pub value : ℕ

-- 12: a divisor that is not 1 to 1,000,000
abbrev pub divisor_refusal : ℕ → Refusal
divisor_refusal divisor = record { number = 12; value = divisor }

-- 13: a border above 8
abbrev pub border_refusal : ℕ → Refusal
border_refusal border = record { number = 13; value = border }

-- what a user sees of a fault
abbrev pub refusal : LayerFault → Refusal
refusal (DivisorOutOfRange divisor) = divisor_refusal divisor
refusal (BorderTooHigh border) = border_refusal border

-- what a fault prints
abbrev pub fault_text : LayerFault → List ℕ
fault_text (DivisorOutOfRange divisor) = codes "divisor " ++ (decimal divisor ++ codes " is not from 1 to 1,000,000")
fault_text (BorderTooHigh border) = codes "border " ++ (decimal border ++ codes " is above 8")
