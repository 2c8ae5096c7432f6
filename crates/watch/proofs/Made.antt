-- One call more.
use Rattle.std.proofs.Common.{◌≡◌, ℕ, ◌+◌, ◌<◌, List, [], ◌∷◌, ◌++◌, length, get_or, take, sym, refl, ap, ◌∙◌, subst}
use Rattle.std.proofs.lemmas.List.{take_more}
use Rattle.gauge.specs.Meaning.{Meaning}
use Rattle.wmtl.specs.Formula.{Formula}
use Rattle.wmtl.specs.Run.{Event}
use Rattle.watch.specs.declared.calls.Call.{Call}
use Rattle.watch.specs.declared.monitor.Watch.{Watch}
use Rattle.watch.specs.Seen.{Seen, Makes, MakesAll, meaning_in, watched}
use Rattle.watch.proofs.Seeing.{same_watch}
use Rattle.watch.specs.Calls.{Outcome, Defined, Outcomes, after_call, after_calls}

module _ (m : Meaning) (f : Formula) where
  calls_push : (es : List Event) (cs : List Call) (c : Call) → after_calls m f es (cs ++ c ∷ []) ≡ after_call m f (after_calls m f es cs) c
  calls_push es [] c = refl
  calls_push es (d ∷ cs) c = calls_push (after_call m f es d) cs c

  outcomes_push : (es : List Event) (cs : List Call) (os : List Outcome) (c : Call) (o : Outcome)
      → Outcomes m f es cs os → Defined m f (after_calls m f es cs) c o → Outcomes m f es (cs ++ c ∷ []) (os ++ o ∷ [])
  outcomes_push es [] [] c o h d = (d, tt)
  outcomes_push es [] (p ∷ os) c o h d = absurd h
  outcomes_push es (b ∷ cs) [] c o h d = absurd h
  outcomes_push es (b ∷ cs) (p ∷ os) c o h d = (h.0, outcomes_push (after_call m f es b) cs os c o h.1 d)

  -- the run after the first k + 1 calls
  pub calls_more : (es : List Event) (cs : List Call) (k : ℕ) (c d : Call) → k < length cs → get_or cs k d ≡ c
      → after_calls m f es (take (k + 1) cs) ≡ after_call m f (after_calls m f es (take k cs)) c
  calls_more es cs k c d h e = ap (after_calls m f es) (take_more cs k d h ∙ ap (λ (x : Call). take k cs ++ x ∷ []) e) ∙ calls_push es (take k cs) c

  -- the outcomes of the first k + 1 calls
  pub outcomes_more : (es : List Event) (cs : List Call) (os os' : List Outcome) (k : ℕ) (c d : Call) (o : Outcome) → k < length cs → get_or cs k d ≡ c
      → take (k + 1) os' ≡ take k os ++ o ∷ [] → Outcomes m f es (take k cs) (take k os) → Defined m f (after_calls m f es (take k cs)) c o
      → Outcomes m f es (take (k + 1) cs) (take (k + 1) os')
  outcomes_more es cs os os' k c d o lt e t h x =
      subst (λ (us : List Outcome). Outcomes m f es (take (k + 1) cs) us) (sym t)
      (subst (λ (bs : List Call). Outcomes m f es bs (take k os ++ o ∷ [])) (sym (take_more cs k d lt ∙ ap (λ (x : Call). take k cs ++ x ∷ []) e))
      (outcomes_push es (take k cs) (take k os) c o h x))

module _ {G : Type 0} (meaning : G → Meaning) where
  -- one call more
  pub makes_more : (w x y : Watch G) (cs : List Call) (os os' : List Outcome) (k : ℕ) (c d : Call) (o : Outcome) → k < length cs → get_or cs k d ≡ c
      → take (k + 1) os' ≡ take k os ++ o ∷ [] → MakesAll meaning w (take k cs) (take k os) x → Makes meaning x c o y
      → MakesAll meaning w (take (k + 1) cs) (take (k + 1) os') y
  makes_more w x y cs os os' k c d o lt at t h n =
      let m = meaning_in meaning w in
      let f = watched meaning w in
      record {
        rule = n.rule ∙ h.rule;
        gauge = n.gauge ∙ h.gauge;
        defined = λ es s.
            outcomes_more m f es cs os os' k c d o lt at t (h.defined es s)
            (same_watch meaning w x h.rule h.gauge (λ m f. Defined m f (after_calls (meaning_in meaning w) (watched meaning w) es (take k cs)) c o)
            (n.defined _ (h.seen es s)));
        seen = λ es s.
            subst (Seen meaning y) (sym (calls_more m f es cs k c d lt at))
            (same_watch meaning w x h.rule h.gauge (λ m f. Seen meaning y (after_call m f (after_calls (meaning_in meaning w) (watched meaning w) es (take k cs)) c))
            (n.seen _ (h.seen es s)));
      }
