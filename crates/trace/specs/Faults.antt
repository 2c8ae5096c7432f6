-- Refusals of a trace as a user sees them: a number, the layer that refused, and the record that is named.
use Rattle.rule.specs.declared.faults.Layer.TheVariants as layers
use Rattle.rule.specs.declared.faults.Refusal.{Refusal}
use Rattle.watch.specs.Calls.{refusal_of}
use Rattle.trace.specs.declared.faults.FollowFault.{FollowFault}
use Rattle.trace.specs.declared.faults.FollowFault.TheVariants.{Length, Record, Watch}

-- by the length 10 at record 0, by a record that is no call 11 at that record, and by the watch its own number at the record
-- whose call it refused
abbrev pub follow_refusal : FollowFault → Refusal
follow_refusal Length = record { number = 10; layer = layers.Trace; «record» = 0 }
follow_refusal (Record k) = record { number = 11; layer = layers.Trace; «record» = k }
follow_refusal (Watch s) = record { number = (refusal_of s.fault).number; layer = layers.Watch; «record» = s.«record» }
