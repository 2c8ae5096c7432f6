-- What a watch has seen, and what calls do to it.
use Rattle.std.specs.Prelude.{◌≡◌, List, take}
use Rattle.gauge.specs.Meaning.{Meaning}
use Rattle.wmtl.specs.Formula.{Formula}
use Rattle.wmtl.specs.Run.{Event, EventsFit}
use Rattle.wmtl.specs.Residual.{Term, residual}
use Rattle.rule.specs.Rules.{formula_for}
use Rattle.watch.specs.declared.calls.Answer.{Answer}
use Rattle.watch.specs.declared.calls.Call.{Call}
use Rattle.watch.specs.declared.monitor.Watch.{Watch}
use Rattle.watch.specs.Calls.{Outcome, Tells, Defined, Outcomes, after_call, after_calls}
use Rattle.watch.specs.Stored.{Stores, told}

module _ {G : Type 0} (meaning : G → Meaning) where
  -- what the gauge of a watch means
  abbrev pub meaning_in : Watch G → Meaning
  meaning_in w = meaning w.gauge

  -- the formula that a watch is for
  abbrev pub watched : Watch G → Formula
  watched w = formula_for w.rule

  -- the residual term of a watch's rule after some events
  abbrev pub left_of : Watch G → List Event → Term
  left_of w es = residual (meaning_in w) (watched w) es

  -- a watch has seen a run: its first `len` cells store the residual term of its rule after that run, its verdict is the one that
  -- the term gives, and the amounts of the events have 64 bits
  pub record Seen (w : Watch G) (es : List Event) : Type 0 where
    pub stores : Stores w.rule (take w.len w.cells) (left_of w es)
    pub tells : w.verdict ≡ told (left_of w es)
    pub fits : EventsFit es

  -- an answer of a watch tells of a run
  abbrev pub TellsOf : Watch G → List Event → Answer → Type 0
  TellsOf w es a = Tells (meaning_in w) (watched w) es a

  -- a call takes a watch from old to new: rule and gauge stay, and after every run that old has seen the outcome is the one that is
  -- defined for the call, and new has seen that run with the call in it
  pub record Makes (old : Watch G) (call : Call) (outcome : Outcome) (new : Watch G) : Type 0 where
    pub rule : new.rule ≡ old.rule
    pub gauge : new.gauge ≡ old.gauge
    pub defined : (es : List Event) → Seen old es → Defined (meaning_in old) (watched old) es call outcome
    pub seen : (es : List Event) → Seen old es → Seen new (after_call (meaning_in old) (watched old) es call)

  -- the same of a list of calls, in order
  pub record MakesAll (old : Watch G) (calls : List Call) (outcomes : List Outcome) (new : Watch G) : Type 0 where
    pub rule : new.rule ≡ old.rule
    pub gauge : new.gauge ≡ old.gauge
    pub defined : (es : List Event) → Seen old es → Outcomes (meaning_in old) (watched old) es calls outcomes
    pub seen : (es : List Event) → Seen old es → Seen new (after_calls (meaning_in old) (watched old) es calls)
