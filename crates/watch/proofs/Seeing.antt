-- A watch that has seen a run, and one that has seen one event more.
use Rattle.std.proofs.Common.{◌≡◌, ℕ, Bool, true, if◌then◌else◌, Ok, Err, ◌+◌, ◌-◌, ◌<◌, ◌≤◌, List, [], ◌∷◌, ◌++◌, length, get_or, take, sym, refl, ap, ◌∙◌, subst, arith}
use Rattle.std.proofs.lemmas.List.{length-append, length-take-le, get_or-take, ext_get_or, length_push}
use Rattle.gauge.specs.Meaning.{Meaning, Lawful}
use Rattle.wmtl.specs.Formula.{Formula}
use Rattle.wmtl.specs.Run.{Event, observe, advance, run, EventsFit}
use Rattle.wmtl.specs.Settled as logic
use Rattle.wmtl.specs.Settled.{Settled}
use Rattle.wmtl.specs.Residual.{Term, is_true, is_false, fresh, waiting, both, either, cells, residual, rewritten}
use Rattle.wmtl.proofs.Theorems.{exact, rewritten_append}
use Rattle.rule.specs.declared.rules.Rule.{Rule}
use Rattle.rule.specs.Rules.{formula_for}
use Rattle.watch.specs.declared.builder.Builder.{Builder}
use Rattle.watch.specs.declared.calls.Answer.{Answer}
use Rattle.watch.specs.declared.calls.Call.{Call}
use Rattle.watch.specs.declared.calls.WatchFault.{WatchFault}
use Rattle.watch.specs.declared.cells.Cell.{Cell}
use Rattle.watch.specs.declared.cells.Cell.TheVariants.{Fresh, Pair}
use Rattle.watch.specs.declared.cells.Entry.{Entry}
use Rattle.watch.specs.declared.cells.Operator.{Operator}
use Rattle.watch.specs.declared.cells.Operator.TheVariants.{Both, Either}
use Rattle.watch.specs.declared.cells.Verdict.TheVariants.{True, Undecided}
use Rattle.watch.specs.Calls.{Tells, Defined, meant, accepted, with_call}
use Rattle.watch.specs.declared.monitor.Watch.{Watch}
use Rattle.watch.specs.Seen.{Seen, Makes, meaning_in, watched, left_of}
use Rattle.watch.specs.Stored.{Stores, stores_true, stores_false, stores_fresh, stores_waiting, stores_pair, Stack, empty, push, told, coded, paired}
use Rattle.watch.specs.Working.{Held, Builds}

-- as many cells are stored as the term has
cells_paired : (o : Operator) (t u : Term) → cells (paired o t u) ≡ 1 + (cells t + cells u)
cells_paired Both t u = refl
cells_paired Either t u = refl

pub length_stored : {rule : Rule} {cs : List Cell} {t : Term} → Stores rule cs t → length cs ≡ cells t
length_stored stores_true = refl
length_stored stores_false = refl
length_stored (stores_fresh r) = refl
length_stored (stores_waiting r is) = refl
length_stored (stores_pair {xs = xs} {ys = ys} {t = t} {u = u} o s s' p q) =
    let a = length_stored s in
    let b = length_stored s' in
    let c = cells_paired o t u in
    let d = length-append ys (xs ++ Pair o ∷ []) in
    let e = length_push xs (Pair o) in
    omega arith

-- the code's verdict means the logic's
meant_coded : (v : logic.Verdict) → meant (coded v) ≡ v
meant_coded logic.verdict_true = refl
meant_coded logic.verdict_false = refl
meant_coded logic.undecided = refl

module _ (m : Meaning) (rule : Rule) where
  pub one_more : (es : List Event) (e : Event) → residual m (formula_for rule) (es ++ e ∷ []) ≡ rewritten m e (residual m (formula_for rule) es)
  one_more es e = rewritten_append m es (e ∷ []) _

  -- events with one more
  pub fits_more : (es : List Event) (e : Event) → EventsFit es → EventsFit (e ∷ []) → EventsFit (es ++ e ∷ [])
  fits_more [] e h k = k
  fits_more (observe s ∷ es) e h k = fits_more es e h k
  fits_more (advance a ∷ es) e h k = (h.0, fits_more es e h.1 k)

  -- a constant stays
  constant_stays : (e : Event) (t : Term) → (told t ≡ Undecided → ⊥) → rewritten m e t ≡ t
  constant_stays (observe s) is_true n = refl
  constant_stays (observe s) is_false n = refl
  constant_stays (advance a) is_true n = refl
  constant_stays (advance a) is_false n = refl
  constant_stays e (fresh f) n = absurd (n refl)
  constant_stays e (waiting f x) n = absurd (n refl)
  constant_stays e (both t u) n = absurd (n refl)
  constant_stays e (either t u) n = absurd (n refl)

  -- what the builder holds where it holds one term
  pub one_term : (b : Builder) (t : Term) (d : Entry) → Builds rule b (t ∷ [])
      → (own : List Cell) × Stores rule own t × Held b.cells b.count own × ((get_or b.entries.items (length b.entries.items - 1) d).verdict ≡ told t)
  one_term b t d h = go h.stack h.held refl
    where
      go : {all : List Cell} {tops : List Entry} → Stack rule all tops (t ∷ []) → Held b.cells b.count all → b.entries.items ≡ tops
          → (own : List Cell) × Stores rule own t × Held b.cells b.count own × ((get_or b.entries.items (length b.entries.items - 1) d).verdict ≡ told t)
      go (push {cs = cs} empty s) held is = (cs, s, held, ap (λ (es : List Entry). (get_or es (length es - 1) d).verdict) is)

  -- the cells that the builder counts are those of the term
  pub count_is : (b : Builder) (t : Term) → Builds rule b (t ∷ []) → b.count ≡ cells t
  count_is b t h = let x = one_term b t (record { start = 0; verdict = True }) h in x.2.counted ∙ length_stored x.1

  -- the cells that the builder holds are those of the term
  pub front_is : (b : Builder) (t : Term) → Builds rule b (t ∷ []) → b.count ≤ 1024 → Stores rule (take b.count b.cells) t
  front_is b t h few =
      let x = one_term b t (record { start = 0; verdict = True }) h in
      let own : List Cell = x.0 in
      let held = x.2 in
      let n = length-take-le b.count b.cells (omega (arith, b.wide)) in
      subst (λ (xs : List Cell). Stores rule xs t)
      (sym (ext_get_or (Fresh 0) _ own (n ∙ held.counted)
      (λ i lt. let below : i < b.count = omega (arith, n) in get_or-take b.count b.cells i (Fresh 0) below ∙ held.stored i (omega arith) below)))
      x.1

module _ {G : Type 0} (meaning : G → Meaning) where
  -- the answer of a watch that has seen a run
  pub seen_tells : (w : Watch G) (es : List Event) → Lawful (meaning_in meaning w) → Seen meaning w es
      → Tells (meaning_in meaning w) (watched meaning w) es (record { verdict = w.verdict; cells = w.len })
  seen_tells w es l s =
      record {
        settles =
            subst (λ (v : logic.Verdict). Settled (meaning_in meaning w) (watched meaning w) (run es) v)
            (sym (ap meant s.tells ∙ meant_coded _)) (exact (meaning_in meaning w) l (watched meaning w) es s.fits).in_any_case;
        counts = sym (length-take-le w.len w.cells (omega (arith, w.short, w.wide))) ∙ length_stored s.stores;
      }

  -- a watch with a verdict has seen one event more already
  pub seen_settled : (w : Watch G) (es : List Event) (e : Event) → (w.verdict ≡ Undecided → ⊥) → EventsFit (e ∷ []) → Seen meaning w es
      → Seen meaning w (es ++ e ∷ [])
  seen_settled w es e n k s =
      let m = meaning_in meaning w in
      let eq = sym (one_more m w.rule es e ∙ constant_stays m w.rule e (left_of meaning w es) (λ u. n (s.tells ∙ u))) in
      record {
        stores = subst (Stores w.rule (take w.len w.cells)) eq s.stores;
        tells = s.tells ∙ ap told eq;
        fits = fits_more m w.rule es e s.fits k;
      }

  -- a watch that took over what the builder made of the term that another watch stores
  pub seen_more : (w v : Watch G) (b : Builder) (es : List Event) (e : Event) → v.rule ≡ w.rule → v.gauge ≡ w.gauge
      → Builds w.rule b (rewritten (meaning_in meaning w) e (left_of meaning w es) ∷ []) → b.count ≤ 1024
      → take b.count v.cells ≡ take b.count b.cells → v.len ≡ b.count → v.verdict ≡ (get_or b.entries.items (length b.entries.items - 1) (record { start = 0; verdict = w.verdict })).verdict
      → EventsFit es → EventsFit (e ∷ []) → Seen meaning v (es ++ e ∷ [])
  seen_more w v b es e same_rule same_gauge h few copied is told_is k k' =
      let m = meaning_in meaning w in
      let x = one_term m w.rule b _ (record { start = 0; verdict = w.verdict }) h in
      let eq : rewritten m e (left_of meaning w es) ≡ left_of meaning w (es ++ e ∷ []) = sym (one_more m w.rule es e) in
      let kept : left_of meaning w (es ++ e ∷ []) ≡ left_of meaning v (es ++ e ∷ []) =
      ap (λ (r : Rule). residual m (formula_for r) (es ++ e ∷ [])) (sym same_rule)
      ∙ ap (λ (q : G). residual (meaning q) (formula_for v.rule) (es ++ e ∷ [])) (sym same_gauge) in
      let row : take b.count b.cells ≡ take v.len v.cells = sym copied ∙ ap (λ (n : ℕ). take n v.cells) (sym is) in
      let stored : Stores w.rule (take v.len v.cells) (left_of meaning v (es ++ e ∷ [])) =
      subst (λ (xs : List Cell). Stores w.rule xs (left_of meaning v (es ++ e ∷ []))) row
      (subst (Stores w.rule (take b.count b.cells)) (eq ∙ kept) (front_is m w.rule b _ h few)) in
      record {
        stores = subst (λ (r : Rule). Stores r (take v.len v.cells) (left_of meaning v (es ++ e ∷ []))) (sym same_rule) stored;
        tells = told_is ∙ x.3 ∙ ap told (eq ∙ kept);
        fits = fits_more m w.rule es e k k';
      }

  -- what is said of a later watch is said of the one before
  pub same_watch : (w v : Watch G) → v.rule ≡ w.rule → v.gauge ≡ w.gauge → (P : Meaning → Formula → Type 0)
      → P (meaning_in meaning v) (watched meaning v) → P (meaning_in meaning w) (watched meaning w)
  same_watch w v rule gauge P h =
      subst (λ (r : Rule). P (meaning_in meaning w) (formula_for r)) rule (subst (λ (q : G). P (meaning q) (watched meaning v)) gauge h)

  -- a term that is stored has at most 1,024 cells
  pub few_cells : (v : Watch G) (es : List Event) → Seen meaning v es → cells (left_of meaning v es) ≤ 1024
  few_cells v es s = omega (arith, v.short, length_stored s.stores, length-take-le v.len v.cells (omega (arith, v.short, v.wide)))

  -- an accepted call that is answered with the verdict and the cells of the watch after it
  pub makes : (w v : Watch G) (c : Call) (a : Answer) → Lawful (meaning_in meaning v) → v.rule ≡ w.rule → v.gauge ≡ w.gauge
      → a ≡ record { verdict = v.verdict; cells = v.len }
      → ((es : List Event) → Seen meaning w es → accepted (meaning_in meaning w) (watched meaning w) es c ≡ true)
      → ((es : List Event) → Seen meaning w es → Seen meaning v (with_call es c)) → Makes meaning w c (Ok a) v
  makes w v c a l rule gauge is ok next =
      record {
        rule = rule;
        gauge = gauge;
        defined = λ es s. (
          ok es s,
          same_watch w v rule gauge (λ m f. Tells m f (with_call es c) a)
              (subst (Tells (meaning_in meaning v) (watched meaning v) (with_call es c)) (sym is) (seen_tells v (with_call es c) l (next es s))),
        );
        seen = λ es s. subst (λ (b : Bool). Seen meaning v (if b then with_call es c else es)) (sym (ok es s)) (next es s);
      }

  -- a call that is not accepted, and leaves what the watch has seen
  pub refuses : (w v : Watch G) (c : Call) (r : WatchFault) → v.rule ≡ w.rule → v.gauge ≡ w.gauge
      → ((es : List Event) → Seen meaning w es → Seen meaning v es)
      → ((es : List Event) → Seen meaning w es → Defined (meaning_in meaning w) (watched meaning w) es c (Err r)) → Makes meaning w c (Err r) v
  refuses w v c r rule gauge same refused =
      record {
        rule = rule;
        gauge = gauge;
        defined = refused;
        seen = λ es s. subst (λ (b : Bool). Seen meaning v (if b then with_call es c else es)) (sym (refused es s).0) (same es s);
      }
