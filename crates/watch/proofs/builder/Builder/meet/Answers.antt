use Rattle.std.proofs.Common.{◌≡◌, ℕ, List, [], set, sym, refl, ap, subst, arith}
use Rattle.wmtl.specs.Residual.{Term}
use Rattle.rule.specs.declared.rules.Rule.{Rule}
use Rattle.watch.specs.declared.cells.Cell.{Cell}
use Rattle.watch.specs.declared.cells.Cell.TheVariants.{Pair}
use Rattle.watch.specs.declared.cells.Entry.{Entry}
use Rattle.watch.specs.declared.cells.Operator.{Operator}
use Rattle.watch.specs.declared.cells.Operator.TheVariants.{Both, Either}
use Rattle.watch.specs.declared.cells.Verdict.TheVariants.{Undecided}
use Rattle.watch.specs.Stored.{Stores, stores_true, stores_false, told, absorbing, paired, joined}
use Rattle.watch.specs.Working.{OnTop}
use Rattle.watch.proofs.Joining.{simplified_says}
use Rattle.watch.proofs.Building.{on_absorbed, on_joined}
use Rattle.watch.proofs.builder.Builder.meet.Goals as goal

absorbing_stored : (rule : Rule) (o : Operator) → Stores rule [] (absorbing o)
absorbing_stored rule Both = stores_false
absorbing_stored rule Either = stores_true

told_paired : (o : Operator) (t u : Term) → told (paired o t u) ≡ Undecided
told_paired Both t u = refl
told_paired Either t u = refl

pub returns-in-Absorbed : goal.returns-in-Absorbed
returns-in-Absorbed c =
    let o = c.args.op in
    let b = c.args.self.now in
    record {
      meets = λ rule below xs ys t u s s' p q h.
          let e = simplified_says o _ _ _ t u c.in-Absorbed.ensures p (ap (λ (x : Entry). x.verdict) q) in
          subst (λ (n : ℕ). OnTop rule b.cells n below c.absorbing.result (joined o t u)) (sym c.min-self.ensures)
          (on_absorbed rule b.cells b.count below xs ys t u o s s' h (absorbing o) _ _ (absorbing_stored rule o)
          c.absorbing.ensures (ap (λ (x : Entry). x.start) q) e);
      count = omega (arith, c.min-self.ensures);
      entries = refl;
    }

pub returns-in-Joined : goal.returns-in-Joined
returns-in-Joined c =
    let o = c.args.op in
    let b = c.args.self.now in
    let w = c.write.ensures in
    record {
      meets = λ rule below xs ys t u s s' p q h.
          let e = simplified_says o _ _ _ t u c.in-Joined.ensures p (ap (λ (x : Entry). x.verdict) q) in
          subst (λ (cs : List Cell). OnTop rule cs c.write.new.self.count below Undecided (joined o t u)) (sym w.cells)
          (subst (λ (n : ℕ). OnTop rule (set b.cells b.count (Pair o)) n below Undecided (joined o t u)) (sym w.count)
          (on_joined rule b.cells b.count below xs ys t u o s s' h b.wide e.0 e.1 e.2 (told_paired o t u)));
      count = omega (arith, w.count);
      entries = w.entries;
    }
