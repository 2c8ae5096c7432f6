-- The meaning of the rack: which clocks add up, which keep the larger, and which collect channels.
use Rattle.gauge.specs.Meaning.{Meaning}
use Rattle.gauge.specs.Plain.{sum, peak, channels}
use Rattle.gauge.specs.Layers.{split}

-- clocks 0 to 3 are sums, clocks 4 and 5 are peaks, and the clocks from 6 on are channels
abbrev pub rack_meaning : Meaning
rack_meaning = split 4 sum (split 2 peak channels)
