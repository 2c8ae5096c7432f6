-- What comes of a call on a watch, by the run that the accepted calls before it made.
use Rattle.std.specs.Prelude.{◌≡◌, ℕ, Bool, true, false, List, [], ◌∷◌, ◌++◌, nat_le, if◌then◌else◌, Ok, Err, Result}
use Rattle.gauge.specs.Meaning.{Meaning}
use Rattle.wmtl.specs.Formula.{Formula}
use Rattle.wmtl.specs.Run.{Event, observe, advance, run}
use Rattle.wmtl.specs.Settled.{Settled}
use Rattle.wmtl.specs.Settled as logic
use Rattle.wmtl.specs.Residual.{residual}
use Rattle.wmtl.specs.Residual as terms
use Rattle.watch.specs.declared.calls.Answer.{Answer}
use Rattle.watch.specs.declared.calls.Call.{Call}
use Rattle.watch.specs.declared.calls.Call.TheVariants.{Advance, Observe, Report}
use Rattle.watch.specs.declared.calls.WatchFault.{WatchFault}
use Rattle.watch.specs.declared.calls.WatchFault.TheVariants.{Clock, Cells}
use Rattle.watch.specs.declared.cells.Verdict.{Verdict}
use Rattle.watch.specs.declared.cells.Verdict.TheVariants.{True, False, Undecided}

-- what a verdict of the code means
abbrev pub meant : Verdict → logic.Verdict
meant True = logic.verdict_true
meant False = logic.verdict_false
meant Undecided = logic.undecided

-- what comes of a call: an answer, or why it is refused
abbrev pub Outcome : Type 0
Outcome = Result Answer WatchFault

-- a refusal as a user sees it: its number, and the value that it carries
pub record Refusal : Type 0 where
  pub number : ℕ
  pub value : ℕ

-- a clock above 7 is refused with 8 and the clock, a term with too many cells with 9 and its cells
abbrev pub refusal_of : WatchFault → Refusal
refusal_of (Clock c) = record { number = 8; value = c }
refusal_of (Cells n) = record { number = 9; value = n }

-- the events of a run, with a call in it; a report alters nothing
abbrev pub with_call : List Event → Call → List Event
with_call es (Advance c a) = es ++ (advance (record { clock = c; amount = a }) ∷ [])
with_call es (Observe s) = es ++ (observe s ∷ [])
with_call es Report = es

module _ (m : Meaning) (f : Formula) where
  -- the cells that the simplified term has after some events
  abbrev pub cells_after : List Event → ℕ
  cells_after es = terms.cells (residual m f es)

  -- a call is accepted: an advance of a clock up to 7, an observation after which the term has at most 1,024 cells, any report
  abbrev pub accepted : List Event → Call → Bool
  accepted es (Advance c a) = nat_le c 7
  accepted es (Observe s) = nat_le (cells_after (with_call es (Observe s))) 1024
  accepted es Report = true

  -- the run after a call: only accepted calls make it
  abbrev pub after_call : List Event → Call → List Event
  after_call es c = if accepted es c then with_call es c else es

  -- the run after some calls
  abbrev pub after_calls : List Event → List Call → List Event
  after_calls es [] = es
  after_calls es (c ∷ cs) = after_calls (after_call es c) cs

  -- an answer tells of a run: its verdict is the one that the run settles, its cells are those of the residual term
  pub record Tells (es : List Event) (a : Answer) : Type 0 where
    pub settles : Settled m f (run es) (meant a.verdict)
    pub counts : a.cells ≡ cells_after es

  -- how a call that is not accepted is refused; a report is always accepted
  abbrev pub refusal_for : List Event → Call → Refusal
  refusal_for es (Advance c a) = record { number = 8; value = c }
  refusal_for es (Observe s) = record { number = 9; value = cells_after (with_call es (Observe s)) }
  refusal_for es Report = record { number = 0; value = 0 }

  -- the outcome that is defined for a call after a run: an answer that tells of the run with the call in it, just where
  -- the call is accepted, and else the refusal
  abbrev pub Defined : List Event → Call → Outcome → Type 0
  Defined es c (Ok a) = (accepted es c ≡ true) × Tells (with_call es c) a
  Defined es c (Err w) = (accepted es c ≡ false) × (refusal_of w ≡ refusal_for es c)

  -- each outcome is the one that is defined for its call after the run so far
  abbrev pub Outcomes : List Event → List Call → List Outcome → Type 0
  Outcomes es [] [] = Unit {0}
  Outcomes es [] (o ∷ os) = ⊥
  Outcomes es (c ∷ cs) [] = ⊥
  Outcomes es (c ∷ cs) (o ∷ os) = Defined es c o × Outcomes (after_call es c) cs os
