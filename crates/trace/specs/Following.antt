-- Following a trace: the run that its records make, and what comes of it.
use Rattle.std.specs.Prelude.{◌≡◌, ℕ, zero, suc, ◌<◌, true, false, List, length, Some, None, Ok, Err, Option, Result, IfOk, MatchResult}
use Rattle.gauge.specs.Meaning.{Meaning}
use Rattle.wmtl.specs.Formula.{Formula}
use Rattle.wmtl.specs.Run.{Event, Endless, run, Continues}
use Rattle.wmtl.specs.Holds.{Holds}
use Rattle.watch.specs.declared.calls.Call.{Call}
use Rattle.watch.specs.declared.cells.Verdict.{Verdict}
use Rattle.watch.specs.declared.cells.Verdict.TheVariants.{True, False, Undecided}
use Rattle.watch.specs.declared.monitor.Watch.{Watch as Watcher}
use Rattle.watch.specs.Seen.{Seen, meaning_in, watched}
use Rattle.watch.specs.Calls.{refusal_of, with_call, accepted, Tells, refusal_for}
use Rattle.trace.specs.declared.faults.Followed.{Followed}
use Rattle.trace.specs.declared.faults.FollowFault.{FollowFault}
use Rattle.trace.specs.declared.faults.FollowFault.TheVariants.{Length, Record, Watch}
use Rattle.trace.specs.Layout.{call_of, record_at, count_of}

-- a run, with the call of a record in it
abbrev pub with_record : List Event → Option Call → List Event
with_record es None = es
with_record es (Some c) = with_call es c

-- a run, extended by the first n records of a trace
unfoldable pub extended : List Event → List ℕ → ℕ → List Event
extended es trace zero = es
extended es trace (suc n) = with_record (extended es trace n) (call_of (record_at trace n))

-- the number of records that were carried out: all of them, or those before the one that is refused
abbrev pub carried_out : Result Followed FollowFault → ℕ
carried_out (Ok x) = x.records
carried_out (Err Length) = 0
carried_out (Err (Record k)) = k
carried_out (Err (Watch s)) = s.«record»

module _ (m : Meaning) (f : Formula) where
  -- a record is carried out after a run: it is a call, and the call is accepted
  abbrev pub Carries : List Event → Option Call → Type 0
  Carries es None = ⊥
  Carries es (Some c) = accepted m f es c ≡ true

  -- record k is refused after a run: it is no call, or the watch does not accept its call, and the fault is the watch's own
  abbrev pub Stops : List Event → Option Call → ℕ → FollowFault → Type 0
  Stops es None k Length = ⊥
  Stops es None k (Record j) = j ≡ k
  Stops es None k (Watch s) = ⊥
  Stops es (Some c) k Length = ⊥
  Stops es (Some c) k (Record j) = ⊥
  Stops es (Some c) k (Watch s) =
      (s.«record» ≡ k) × (accepted m f es c ≡ false) × (refusal_of s.fault ≡ refusal_for m f es c)

  -- each of the first n records is carried out after those before it
  abbrev pub Carried : List Event → List ℕ → ℕ → Type 0
  Carried es trace n = (k : ℕ) → k < n → Carries (extended es trace k) (call_of (record_at trace k))

  -- the whole trace is carried out after a run, and the answer tells of the run with all of its records
  pub record Done (es : List Event) (trace : List ℕ) (x : Followed) : Type 0 where
    pub counted : count_of (length trace) ≡ Some x.records
    pub carried : Carried es trace x.records
    pub tells : Tells m f (extended es trace x.records) (record { verdict = x.verdict; cells = x.cells })

  -- the trace is refused: for its length, or at the first record that is not carried out
  pub data Refused (es : List Event) (trace : List ℕ) : FollowFault → Type 0 where
    by_length : count_of (length trace) ≡ None → Refused es trace Length
    at_record : {n k : ℕ} {w : FollowFault} → count_of (length trace) ≡ Some n → k < n → Carried es trace k
        → Stops (extended es trace k) (call_of (record_at trace k)) k w → Refused es trace w

  -- what comes of following a trace after a run
  abbrev pub Follows : List Event → List ℕ → Result Followed FollowFault → Type 0
  Follows es trace (Ok x) = Done es trace x
  Follows es trace (Err w) = Refused es trace w

  -- a verdict is final after a run: true where the rule holds on every continuation, false where it holds on none
  abbrev pub FinalAfter : List Event → Verdict → Type 0
  FinalAfter es True = (ω : Endless) → Continues (run es) ω → Holds m f ω 0
  FinalAfter es False = (ω : Endless) → Continues (run es) ω → Holds m f ω 0 → ⊥
  FinalAfter es Undecided = Unit {0}

module _ {G : Type 0} (meaning : G → Meaning) where
  -- a record takes a watch from old to new: rule and gauge stay; after every run that old has seen it is carried out, and new has
  -- seen that run with the record's call in it, or it is refused, and new has seen the same run
  pub record CarriesOut (old : Watcher G) (call : Option Call) (k : ℕ) (r : Result Unit FollowFault) (new : Watcher G) : Type 0 where
    pub rule : new.rule ≡ old.rule
    pub gauge : new.gauge ≡ old.gauge
    pub done : (es : List Event) → Seen meaning old es
        → MatchResult r (λ _. Carries (meaning_in meaning old) (watched meaning old) es call × Seen meaning new (with_record es call))
        (λ w. Stops (meaning_in meaning old) (watched meaning old) es call k w × Seen meaning new es)

  -- a trace takes a watch from old to new: rule and gauge stay; after every run that old has seen the result is what comes of following
  -- the trace, new has seen that run with the calls of the records that were carried out, and an answer's verdict is final
  pub record FollowsOn (old : Watcher G) (trace : List ℕ) (r : Result Followed FollowFault) (new : Watcher G) : Type 0 where
    pub rule : new.rule ≡ old.rule
    pub gauge : new.gauge ≡ old.gauge
    pub follows : (es : List Event) → Seen meaning old es → Follows (meaning_in meaning old) (watched meaning old) es trace r
    pub seen : (es : List Event) → Seen meaning old es → Seen meaning new (extended es trace (carried_out r))
    pub lasts : (es : List Event) → Seen meaning old es
        → IfOk r (λ x. FinalAfter (meaning_in meaning old) (watched meaning old) (extended es trace x.records) x.verdict)
