-- The gauges of the worked runs keep the laws: the sum, the peak, and a coarse sum.
use native.Mathlib.Omega.{arith}
use Rattle.gauge.specs.Meaning.{Lawful}
use Rattle.gauge.specs.Plain.{sum}
use Rattle.gauge.specs.Layers.{coarse}
use Rattle.gauge.specs.PlainLaws.{sum_lawful}
use Rattle.gauge.specs.LayerLaws.{coarse_lawful}

pub coarse_sum_lawful : Lawful (coarse 1000 sum)
coarse_sum_lawful = coarse_lawful 1000 sum (omega arith) sum_lawful
