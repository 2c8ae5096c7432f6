-- The promise of every way of using a new watch follows from the outcomes that are defined for the calls.
use Rattle.std.proofs.Common.{◌≡◌, ℕ, zero, suc, ◌≤◌, Bool, true, false, cond, eqb, leb, ◌↔◌, List, [], ◌∷◌, ◌++◌, length, take, drop, Ok, Err, sym, refl, ap, ◌∙◌, subst, ap₂, ⊎_elim, append_assoc, append-nil, add-one, arith, take-append-drop, take-take, drop-drop}
use borrow.Author.Tests.{clash}
use Rattle.gauge.specs.Meaning.{Meaning, Lawful, Fits}
use Rattle.wmtl.specs.Formula.{Formula}
use Rattle.wmtl.specs.Run.{Event, observe, advance, run, EventsFit}
use Rattle.wmtl.specs.Settled.{Settled, verdict_true, verdict_false, undecided}
use Rattle.wmtl.specs.Settled as logic
use Rattle.wmtl.specs.Residual.{Term, is_true, is_false, fresh, verdict, rewritten_all, residual}
use Rattle.wmtl.specs.Residual as terms
use Rattle.wmtl.specs.Theorems.{Exact, Final}
use Rattle.wmtl.proofs.Theorems.{exact, rewritten_append, in_two_parts, numbers_fit}
use Rattle.wmtl.proofs.Theorems as theorems
use Rattle.watch.specs.declared.calls.Answer.{Answer}
use Rattle.watch.specs.declared.calls.Call.{Call}
use Rattle.watch.specs.declared.calls.Call.TheVariants.{Advance, Observe, Report}
use Rattle.watch.specs.declared.calls.WatchFault.{WatchFault}
use Rattle.watch.specs.declared.calls.WatchFault.TheVariants.{Clock, Cells}
use Rattle.watch.specs.declared.cells.Verdict.{Verdict}
use Rattle.watch.specs.declared.cells.Verdict.TheVariants.{True, False, Undecided}
use Rattle.watch.specs.Calls.{meant, Outcome, Refusal, refusal_of, with_call, accepted, after_call, after_calls, Tells, refusal_for, Defined, Outcomes}
use Rattle.watch.specs.Promise.{Gives, outcome_at, up_to, VerdictsFinal, CoveredDecided, TwoPartsAlike, Promise}

-- the amounts of some events and then others have 64 bits just where those of both have
fit_append : (es later : List Event) → EventsFit (es ++ later) ↔ (EventsFit es × EventsFit later)
fit_append [] later = (λ h. (tt, h), λ h. h.1)
fit_append (observe s ∷ es) later = fit_append es later
fit_append (advance a ∷ es) later =
    (λ h. let r = (fit_append es later).0 h.1 in ((h.0, r.0), r.1), λ h. (h.0.0, (fit_append es later).1 (h.0.1, h.1)))

-- the second run is the first one and then some later events
abbrev Grown : List Event → List Event → Type 0
Grown es es' = (later : List Event) × (es' ≡ es ++ later)

-- a part of a run has 64 bits where the whole has
fit_before : (es : List Event) {es' : List Event} → Grown es es' → EventsFit es' → EventsFit es
fit_before es g h = ((fit_append es g.0).0 (subst EventsFit g.1 h)).0

-- what a call adds to a run
abbrev added : Call → List Event
added (Advance c a) = advance (record { clock = c; amount = a }) ∷ []
added (Observe s) = observe s ∷ []
added Report = []

-- so a call leads to the run before it and then what it adds
with_added : (es : List Event) (c : Call) → with_call es c ≡ es ++ added c
with_added es (Advance c a) = refl
with_added es (Observe s) = refl
with_added es Report = sym (append-nil es)

-- a verdict of the code is known by its meaning
abbrev said : logic.Verdict → Verdict
said verdict_true = True
said verdict_false = False
said undecided = Undecided

said_meant : (v : Verdict) → said (meant v) ≡ v
said_meant True = refl
said_meant False = refl
said_meant Undecided = refl

same_verdict : (u v : Verdict) → meant u ≡ meant v → u ≡ v
same_verdict u v e = sym (said_meant u) ∙ ap said e ∙ said_meant v

-- a fault is known by its refusal
abbrev fault_of : Refusal → WatchFault
fault_of r = cond (eqb r.number 8) (Clock r.value) (Cells r.value)

fault_refusal : (w : WatchFault) → fault_of (refusal_of w) ≡ w
fault_refusal (Clock c) = refl
fault_refusal (Cells n) = refl

same_fault : (u v : WatchFault) → refusal_of u ≡ refusal_of v → u ≡ v
same_fault u v e = sym (fault_refusal u) ∙ ap fault_of e ∙ fault_refusal v

module _ (m : Meaning) (f : Formula) where
  -- the run only grows, by a call
  grows_by : (es : List Event) (c : Call) → Grown es (after_call m f es c)
  grows_by es c = by (accepted m f es c)
    where
      by : (o : Bool) → Grown es (cond o (with_call es c) es)
      by true = (added c, with_added es c)
      by false = ([], sym (append-nil es))

  -- and by some calls
  grows : (es : List Event) (cs : List Call) → Grown es (after_calls m f es cs)
  grows es [] = ([], sym (append-nil es))
  grows es (c ∷ cs) =
      let x = grows_by es c in
      let y = grows (after_call m f es c) cs in
      (x.0 ++ y.0, y.1 ∙ ap (λ (l : List Event). l ++ y.0) x.1 ∙ append_assoc es x.0 y.0)

  -- some calls and then others
  calls_append : (es : List Event) (cs ds : List Call) → after_calls m f es (cs ++ ds) ≡ after_calls m f (after_calls m f es cs) ds
  calls_append es [] ds = refl
  calls_append es (c ∷ cs) ds = calls_append (after_call m f es c) cs ds

  -- the run after the first j calls is a part of the whole
  grows_after : (es : List Event) (j : ℕ) (cs : List Call) → Grown (after_calls m f es (take j cs)) (after_calls m f es cs)
  grows_after es j cs =
      let x = grows (after_calls m f es (take j cs)) (drop j cs) in
      (x.0, ap (after_calls m f es) (sym (take-append-drop j cs)) ∙ calls_append es (take j cs) (drop j cs) ∙ x.1)

  -- the run up to a call is a part of the run up to a later one
  grows_up_to : (calls : List Call) (j k : ℕ) → j ≤ k → Grown (up_to m f calls j) (up_to m f calls k)
  grows_up_to calls j k h =
      subst (λ (cs : List Call). Grown (after_calls m f [] cs) (up_to m f calls k))
      (take-take (suc j) (suc k) calls (omega arith)) (grows_after [] (suc j) (take (suc k) calls))

  -- an accepted call is in the run after it
  run_accepted : (es : List Event) (c : Call) → accepted m f es c ≡ true → after_call m f es c ≡ with_call es c
  run_accepted es c e = ap (λ (o : Bool). cond o (with_call es c) es) e

  -- a refused call is not
  run_refused : (es : List Event) (c : Call) → accepted m f es c ≡ false → after_call m f es c ≡ es
  run_refused es c e = ap (λ (o : Bool). cond o (with_call es c) es) e

  -- an answer to call k gives the verdict that the run up to it settles
  answered : (es : List Event) (calls : List Call) (outs : List Outcome) → Outcomes m f es calls outs → (k : ℕ) (v : Verdict)
      → Gives (outcome_at outs k) v → Settled m f (run (after_calls m f es (take (suc k) calls))) (meant v)
  answered es [] [] x k v g = absurd g
  answered es [] (o ∷ os) x k v g = absurd x
  answered es (c ∷ cs) [] x k v g = absurd x
  answered es (c ∷ cs) (o ∷ os) x (suc k) v g = answered (after_call m f es c) cs os x.1 k v g
  answered es (c ∷ cs) (Err w ∷ os) x zero v g = absurd g
  answered es (c ∷ cs) (Ok a ∷ os) x zero v g =
      subst (λ (l : List Event). Settled m f (run l) (meant v)) (sym (run_accepted es c x.0.0))
      (subst (λ (u : Verdict). Settled m f (run (with_call es c)) (meant u)) g x.0.1.settles)

  -- the outcomes of the calls after some calls
  outcomes_after : (es : List Event) (cs ds : List Call) (outs : List Outcome) → Outcomes m f es (cs ++ ds) outs
      → Outcomes m f (after_calls m f es cs) ds (drop (length cs) outs)
  outcomes_after es [] ds outs x = x
  outcomes_after es (c ∷ cs) ds [] x = absurd x
  outcomes_after es (c ∷ cs) ds (o ∷ outs) x = outcomes_after (after_call m f es c) cs ds outs x.1

module _ (m : Meaning) (law : Lawful m) (f : Formula) where
  -- the verdict that a run settles is that of the residual
  settled_verdict : (es : List Event) → EventsFit es → (v : logic.Verdict) → Settled m f (run es) v → verdict (residual m f es) ≡ v
  settled_verdict es h verdict_true s = ap verdict ((exact m law f es h).when_true.1 s)
  settled_verdict es h verdict_false s = ap verdict ((exact m law f es h).when_false.1 s)
  settled_verdict es h undecided s = by (verdict (residual m f es)) (exact m law f es h).in_any_case
    where
      by : (w : logic.Verdict) → Settled m f (run es) w → w ≡ undecided
      by verdict_true t = absurd (s.0 t)
      by verdict_false t = absurd (s.1 t)
      by undecided t = refl

  -- two runs with the same residual, and amounts of 64 bits in both
  record Alike (es es' : List Event) : Type 0 where
    same : residual m f es ≡ residual m f es'
    fit : EventsFit es
    fit' : EventsFit es'

  -- answers that tell of such runs are the same
  same_answer : (es es' : List Event) → Alike es es' → (a a' : Answer) → Tells m f es a → Tells m f es' a' → a ≡ a'
  same_answer es es' l a a' x y =
      ap₂ (λ (v : Verdict) (n : ℕ). record { verdict = v; cells = n })
      (same_verdict a.verdict a'.verdict
      (sym (settled_verdict es l.fit (meant a.verdict) x.settles) ∙ ap verdict l.same
      ∙ settled_verdict es' l.fit' (meant a'.verdict) y.settles))
      (x.counts ∙ ap terms.cells l.same ∙ sym y.counts)

  -- two calls, each after a run, have the same outcome and leave runs with the same residual
  record SameCall (es : List Event) (c : Call) (es' : List Event) (c' : Call) : Type 0 where
    accept : accepted m f es c ≡ accepted m f es' c'
    refuse : refusal_for m f es c ≡ refusal_for m f es' c'
    where_accepted : accepted m f es c ≡ true → Alike (with_call es c) (with_call es' c')
    where_refused : accepted m f es c ≡ false → Alike es es'

  module _ (es : List Event) (c : Call) (es' : List Event) (c' : Call) (s : SameCall es c es' c') where
    -- the outcomes are the same
    same_outcome : (o o' : Outcome) → Defined m f es c o → Defined m f es' c' o' → o ≡ o'
    same_outcome (Ok a) (Ok a') x y =
        ap Ok (same_answer (with_call es c) (with_call es' c') (s.where_accepted x.0) a a' x.1 y.1)
    same_outcome (Ok a) (Err w) x y = absurd (clash (sym y.0 ∙ sym s.accept ∙ x.0))
    same_outcome (Err w) (Ok a) x y = absurd (clash (sym x.0 ∙ s.accept ∙ y.0))
    same_outcome (Err w) (Err w') x y = ap Err (same_fault w w' (x.1 ∙ s.refuse ∙ sym y.1))

    -- the runs after them have the same residual
    same_after : Alike (after_call m f es c) (after_call m f es' c')
    same_after =
        subst (λ (o : Bool). Alike (after_call m f es c) (cond o (with_call es' c') es')) s.accept (by (accepted m f es c) refl)
      where
        by : (o : Bool) → accepted m f es c ≡ o → Alike (cond o (with_call es c) es) (cond o (with_call es' c') es')
        by true e = s.where_accepted e
        by false e = s.where_refused e

    -- and where the outcomes of the calls after them are the same, all are
    same_from : (cs : List Call)
        → ((os os' : List Outcome) → Outcomes m f (after_call m f es c) cs os → Outcomes m f (after_call m f es' c') cs os' → os ≡ os')
        → (os os' : List Outcome) → Outcomes m f es (c ∷ cs) os → Outcomes m f es' (c' ∷ cs) os' → os ≡ os'
    same_from cs later [] os' x y = absurd x
    same_from cs later (o ∷ os) [] x y = absurd y
    same_from cs later (o ∷ os) (o' ∷ os') x y = ap₂ ◌∷◌ (same_outcome o o' x.0 y.0) (later os os' x.1 y.1)

  module _ (es es' : List Event) (l : Alike es es') (c : Call) where
    -- a call keeps the residuals of two runs the same
    residual_added : residual m f (with_call es c) ≡ residual m f (with_call es' c)
    residual_added = appended es ∙ ap (rewritten_all m (added c)) l.same ∙ sym (appended es')
      where
        appended : (es : List Event) → residual m f (with_call es c) ≡ rewritten_all m (added c) (residual m f es)
        appended es = ap (residual m f) (with_added es c) ∙ rewritten_append m es (added c) (fresh f)

    -- and the amounts of 64 bits
    alike_added : EventsFit (with_call es c) → Alike (with_call es c) (with_call es' c)
    alike_added h =
        let k = (fit_append es (added c)).0 (subst EventsFit (with_added es c) h) in
        record {
          same = residual_added;
          fit = h;
          fit' = subst EventsFit (sym (with_added es' c)) ((fit_append es' (added c)).1 (l.fit', k.1));
        }

    -- so it is the same call after both
    same_call : EventsFit (after_call m f es c) → SameCall es c es' c
    same_call h =
        let k = by c residual_added in
        record {
          accept = k.0;
          refuse = k.1;
          where_accepted = λ e. alike_added (subst EventsFit (run_accepted m f es c e) h);
          where_refused = λ e. l;
        }
      where
        by : (c : Call) → residual m f (with_call es c) ≡ residual m f (with_call es' c)
            → (accepted m f es c ≡ accepted m f es' c) × (refusal_for m f es c ≡ refusal_for m f es' c)
        by (Advance d a) e = (refl, refl)
        by (Observe s) e =
            let n = ap terms.cells e in
            (ap (λ (n : ℕ). leb n 1024) n, ap (λ (n : ℕ). record { number = 9; value = n }) n)
        by Report e = (refl, refl)

  -- after two runs with the same residual, the same calls have the same outcomes
  same_outcomes : (es es' : List Event) → Alike es es' → (cs : List Call) → EventsFit (after_calls m f es cs)
      → (os os' : List Outcome) → Outcomes m f es cs os → Outcomes m f es' cs os' → os ≡ os'
  same_outcomes es es' l [] h [] [] x y = refl
  same_outcomes es es' l [] h [] (o ∷ os') x y = absurd y
  same_outcomes es es' l [] h (o ∷ os) os' x y = absurd x
  same_outcomes es es' l (c ∷ cs) h os os' x y =
      let s = same_call es es' l c (fit_before (after_call m f es c) (grows m f (after_call m f es c) cs) h) in
      same_from es c es' c s cs (same_outcomes (after_call m f es c) (after_call m f es' c) (same_after es c es' c s) cs h) os os' x y

  module _ (es : List Event) (h : EventsFit es) (c a b : ℕ) (fa : Fits a) (fb : Fits b) where
    -- an advance, and two parts that join to it
    abbrev whole : Call
    whole = Advance c (m.join c a b)

    abbrev part : Call
    part = Advance c a

    abbrev last_part : Call
    last_part = Advance c b

    -- both parts lead to the residual of the whole
    parts_alike : Alike (with_call es whole) (with_call (with_call es part) last_part)
    parts_alike =
        let h' = (fit_append es (added part)).1 (h, (fa, tt)) in
        record {
          same =
              rewritten_append m es (added whole) (fresh f)
              ∙ sym (in_two_parts m law c a b fa fb (residual m f es) (numbers_fit m law f es h))
              ∙ ap (rewritten_all m (added last_part)) (sym (rewritten_append m es (added part) (fresh f)))
              ∙ sym (rewritten_append m (with_call es part) (added last_part) (fresh f));
          fit = (fit_append es (added whole)).1 (h, (law.join_fits c a b fa fb, tt));
          fit' = (fit_append (with_call es part) (added last_part)).1 (h', (fb, tt));
        }

    -- the last part after the first is the same call as the whole
    parts_call : SameCall es whole (after_call m f es part) last_part
    parts_call =
        record {
          accept = refl;
          refuse = refl;
          where_accepted =
              λ e. subst (λ (l : List Event). Alike (with_call es whole) (with_call l last_part))
              (sym (run_accepted m f es part e)) parts_alike;
          where_refused =
              λ e. subst (Alike es) (sym (run_refused m f es part e)) (record { same = refl; fit = h; fit' = h });
        }

    -- from the whole on, and from the last part on, the outcomes are the same
    parts_outcomes : (cs : List Call) → EventsFit (after_calls m f es (whole ∷ cs)) → (os os' : List Outcome)
        → Outcomes m f es (whole ∷ cs) os → Outcomes m f (after_call m f es part) (last_part ∷ cs) os' → os ≡ os'
    parts_outcomes cs k =
        same_from es whole (after_call m f es part) last_part parts_call cs
        (same_outcomes _ _ (same_after es whole (after_call m f es part) last_part parts_call) cs k)

  module _ (calls : List Call) (outs : List Outcome) (x : Outcomes m f [] calls outs) (h : EventsFit (after_calls m f [] calls)) where
    -- the run up to call k has amounts of 64 bits
    fit_up_to : (k : ℕ) → EventsFit (up_to m f calls k)
    fit_up_to k = fit_before (up_to m f calls k) (grows_after m f [] (suc k) calls) h

    -- and settles the verdict of an answer to call k
    settled_at : (k : ℕ) (v : Verdict) → Gives (outcome_at outs k) v → Settled m f (run (up_to m f calls k)) (meant v)
    settled_at = answered m f [] calls outs x

    -- the theorems of the logic at the run up to call k
    exact_at : (k : ℕ) → Exact m f (up_to m f calls k)
    exact_at k = exact m law f (up_to m f calls k) (fit_up_to k)

    final_at : (k : ℕ) → Final m f (up_to m f calls k)
    final_at k = theorems.final m law f (up_to m f calls k) (fit_up_to k)

    -- what is left of the rule after an answer true, and after an answer false
    is_true_at : (k : ℕ) → Gives (outcome_at outs k) True → residual m f (up_to m f calls k) ≡ is_true
    is_true_at k g = (exact_at k).when_true.1 (settled_at k True g)

    is_false_at : (k : ℕ) → Gives (outcome_at outs k) False → residual m f (up_to m f calls k) ≡ is_false
    is_false_at k g = (exact_at k).when_false.1 (settled_at k False g)

    -- where no later event alters the residual, later answers have its verdict
    kept : (t : Term) (u : Verdict) → verdict t ≡ meant u → (j k : ℕ) → j ≤ k
        → ((later : List Event) → residual m f (up_to m f calls j ++ later) ≡ t) → (v : Verdict) → Gives (outcome_at outs k) v → v ≡ u
    kept t u is j k le stays v g =
        let y = grows_up_to m f calls j k le in
        same_verdict v u
        (sym (settled_verdict (up_to m f calls k) (fit_up_to k) (meant v) (settled_at k v g))
        ∙ ap (λ (es : List Event). verdict (residual m f es)) y.1 ∙ ap verdict (stays y.0) ∙ is)

    verdicts_final : VerdictsFinal m f calls outs
    verdicts_final =
        record {
          true_holds = λ k lt g. (final_at k).true_holds (is_true_at k g);
          false_fails = λ k lt g. (final_at k).false_fails (is_false_at k g);
          true_kept = λ j k le lt g. kept is_true True refl j k le ((final_at j).true_stays (is_true_at j g));
          false_kept = λ j k le lt g. kept is_false False refl j k le ((final_at j).false_stays (is_false_at j g));
        }

    covered_decided : CoveredDecided m f calls outs
    covered_decided k lt c g =
        let n = settled_at k Undecided g in
        ⊎_elim (λ e. n.0 ((exact_at k).when_true.0 e)) (λ e. n.1 ((exact_at k).when_false.0 e))
        (theorems.decided m law f (up_to m f calls k) (fit_up_to k) c)

    two_parts_alike : TwoPartsAlike m f calls outs
    two_parts_alike before after c a b fa fb is outs' x' =
        let es = after_calls m f [] before in
        let cs = Advance c (m.join c a b) ∷ after in
        let n = length before in
        let k = subst EventsFit (ap (after_calls m f []) is ∙ calls_append m f [] before cs) h in
        let y = outcomes_after m f [] before cs outs (subst (λ (l : List Call). Outcomes m f [] l outs) is x) in
        let y' = outcomes_after m f es (Advance c a ∷ []) (Advance c b ∷ after) (drop n outs')
        (outcomes_after m f [] before (Advance c a ∷ (Advance c b ∷ after)) outs' x') in
        let e : drop 1 (drop n outs') ≡ drop (suc n) outs' = drop-drop 1 n outs' ∙ ap (λ (i : ℕ). drop i outs') (add-one n) in
        parts_outcomes es (fit_before es (grows m f es cs) k) c a b fa fb after k (drop n outs) (drop 1 (drop n outs')) y y' ∙ e

-- the promise holds of all calls and the outcomes that are defined for them
pub promise : (m : Meaning) → Lawful m → (f : Formula) (calls : List Call) (outs : List Outcome)
    → Outcomes m f [] calls outs → EventsFit (after_calls m f [] calls) → Promise m f calls outs
promise m law f calls outs x h =
    record {
      defined = x;
      only = λ outs' y. same_outcomes m law f [] [] (record { same = refl; fit = tt; fit' = tt }) calls h outs outs' x y;
      final = verdicts_final m law f calls outs x h;
      decided = covered_decided m law f calls outs x h;
      two_parts = two_parts_alike m law f calls outs x h;
    }
