-- One record more.
use Rattle.std.proofs.Common.{◌≡◌, ℕ, ◌+◌, ◌<◌, List, length, Some, None, Ok, Err, Option, sym, refl, ap, ◌∙◌, subst, add-one, arith, below_more}
use Rattle.gauge.specs.Meaning.{Meaning}
use Rattle.wmtl.specs.Formula.{Formula}
use Rattle.wmtl.specs.Run.{Event}
use Rattle.watch.specs.declared.calls.Call.{Call}
use Rattle.trace.specs.declared.faults.FollowFault.{FollowFault}
use Rattle.trace.specs.declared.faults.FollowFault.TheVariants.{Length, Record, Watch}
use Rattle.watch.specs.declared.monitor.Watch.{Watch as Watcher}
use Rattle.watch.specs.Calls.{Tells}
use Rattle.watch.specs.Seen.{Seen, meaning_in, watched}
use Rattle.watch.proofs.Seeing.{same_watch}
use Rattle.trace.specs.declared.faults.Followed.{Followed}
use Rattle.trace.specs.Layout.{call_of, record_at, count_of}
use Rattle.trace.specs.Following.{with_record, extended, carried_out, Carries, Stops, Carried, FinalAfter, by_length, at_record, CarriesOut, FollowsOn}

pub extended_none : (es : List Event) (trace : List ℕ) → extended es trace 0 ≡ es
unfolding extended
extended_none es trace = refl

pub extended_more : (es : List Event) (trace : List ℕ) (k : ℕ)
    → extended es trace (k + 1) ≡ with_record (extended es trace k) (call_of (record_at trace k))
unfolding extended
extended_more es trace k = ap (extended es trace) (add-one k)

module _ (m : Meaning) (f : Formula) where
  pub carried_none : (es : List Event) (trace : List ℕ) → Carried m f es trace 0
  carried_none es trace k h = absurd (nothing k h)
    where
      nothing : (k : ℕ) → k < 0 → ⊥
      nothing k h = omega arith

  pub carried_more : (es : List Event) (trace : List ℕ) (k : ℕ) → Carried m f es trace k → Carries m f (extended es trace k) (call_of (record_at trace k))
      → Carried m f es trace (k + 1)
  carried_more es trace k h x = below_more (λ j. Carries m f (extended es trace j) (call_of (record_at trace j))) k h x

  -- a fault at record k names it
  pub stops_at : (es : List Event) (o : Option Call) (k : ℕ) (w : FollowFault) → Stops m f es o k w → carried_out (Err w) ≡ k
  stops_at es None k Length s = absurd s
  stops_at es None k (Record j) s = s
  stops_at es None k (Watch x) s = absurd s
  stops_at es (Some c) k Length s = absurd s
  stops_at es (Some c) k (Record j) s = absurd s
  stops_at es (Some c) k (Watch x) s = s.0

-- ---- on a watch

module _ {G : Type 0} (meaning : G → Meaning) where
  -- the first n records of a trace took a watch from w to x
  pub record Reaches (w : Watcher G) (trace : List ℕ) (n : ℕ) (x : Watcher G) : Type 0 where
    pub rule : x.rule ≡ w.rule
    pub gauge : x.gauge ≡ w.gauge
    pub carried : (es : List Event) → Seen meaning w es → Carried (meaning_in meaning w) (watched meaning w) es trace n
    pub seen : (es : List Event) → Seen meaning w es → Seen meaning x (extended es trace n)

  pub reaches_none : (w : Watcher G) (trace : List ℕ) → Reaches w trace 0 w
  reaches_none w trace = record {
    rule = refl;
    gauge = refl;
    carried = λ es s. carried_none (meaning_in meaning w) (watched meaning w) es trace;
    seen = λ es s. subst (Seen meaning w) (sym (extended_none es trace)) s;
  }

  module _ (w x y : Watcher G) (trace : List ℕ) (k : ℕ) (h : Reaches w trace k x) where
    -- what is defined for record k after the run that x has seen
    said : (P : Meaning → Formula → List Event → Type 0) → ((es : List Event) → Seen meaning x es → P (meaning_in meaning x) (watched meaning x) es)
        → (es : List Event) → Seen meaning w es → P (meaning_in meaning w) (watched meaning w) (extended es trace k)
    said P d es s = same_watch meaning w x h.rule h.gauge (λ m f. P m f (extended es trace k)) (d _ (h.seen es s))

    pub reaches_more : CarriesOut meaning x (call_of (record_at trace k)) k (Ok tt) y → Reaches w trace (k + 1) y
    reaches_more d = record {
      rule = d.rule ∙ h.rule;
      gauge = d.gauge ∙ h.gauge;
      carried = λ es s.
          carried_more (meaning_in meaning w) (watched meaning w) es trace k (h.carried es s)
          (said (λ m f es. Carries m f es (call_of (record_at trace k))) (λ es s. (d.done es s).0) es s);
      seen = λ es s. subst (Seen meaning y) (sym (extended_more es trace k)) (d.done _ (h.seen es s)).1;
    }

    pub refused_at : {n : ℕ} → count_of (length trace) ≡ Some n → k < n → (fault : FollowFault)
        → CarriesOut meaning x (call_of (record_at trace k)) k (Err fault) y → FollowsOn meaning w trace (Err fault) y
    refused_at sized lt fault d = record {
      rule = d.rule ∙ h.rule;
      gauge = d.gauge ∙ h.gauge;
      follows = λ es s. at_record sized lt (h.carried es s) (stops es s);
      seen = λ es s.
          subst (λ (n : ℕ). Seen meaning y (extended es trace n))
          (sym (stops_at (meaning_in meaning w) (watched meaning w) (extended es trace k) (call_of (record_at trace k)) k fault (stops es s)))
          (d.done _ (h.seen es s)).1;
      lasts = λ es s. tt;
    }
      where
        stops : (es : List Event) → Seen meaning w es
            → Stops (meaning_in meaning w) (watched meaning w) (extended es trace k) (call_of (record_at trace k)) k fault
        stops = said (λ m f es. Stops m f es (call_of (record_at trace k)) k fault) (λ es s. (d.done es s).0)

  -- a trace of a wrong length
  pub refused_length : (w : Watcher G) (trace : List ℕ) → count_of (length trace) ≡ None → FollowsOn meaning w trace (Err Length) w
  refused_length w trace sized = record {
    rule = refl;
    gauge = refl;
    follows = λ es s. by_length sized;
    seen = λ es s. subst (Seen meaning w) (sym (extended_none es trace)) s;
    lasts = λ es s. tt;
  }

  -- all records were carried out, and the watch was asked
  pub followed : (w x : Watcher G) (trace : List ℕ) (a : Followed) → count_of (length trace) ≡ Some a.records → Reaches w trace a.records x
      → ((es : List Event) → Seen meaning x es → Tells (meaning_in meaning x) (watched meaning x) es (record { verdict = a.verdict; cells = a.cells }))
      → ((es : List Event) → Seen meaning x es → FinalAfter (meaning_in meaning x) (watched meaning x) es a.verdict)
      → FollowsOn meaning w trace (Ok a) x
  followed w x trace a sized h tells lasts = record {
    rule = h.rule;
    gauge = h.gauge;
    follows = λ es s. record {
      counted = sized;
      carried = h.carried es s;
      tells = said w x x trace a.records h (λ m f es. Tells m f es (record { verdict = a.verdict; cells = a.cells })) tells es s;
    };
    seen = h.seen;
    lasts = said w x x trace a.records h (λ m f es. FinalAfter m f es a.verdict) lasts;
  }
