use Rattle.std.proofs.Common.{◌≡◌, ℕ, ◌+◌, ◌*◌, ◌≤◌, List, drop, IfSome, Some, None, Ok, Err, Option, sym, refl, ap, ◌∙◌, subst, subst₂, arith}
use Rattle.std.proofs.lemmas.Result.{err_from_is_err_and}
use Rattle.std.specs.Option.{ok_or}
use Rattle.std.specs.Slice.Iter.{chunks_exact_rest, chunks_exact_size}
use Rattle.rule.proofs.Chunks.{next_piece}
use Rattle.trace.specs.declared.faults.FollowFault.{FollowFault}
use Rattle.trace.specs.declared.faults.FollowFault.TheVariants.{Length}
use Rattle.trace.specs.Layout.{call_of}
use Rattle.trace.specs.Following.{CarriesOut}
use Rattle.trace.proofs.Carrying.{Reaches, reaches_none, reaches_more, refused_at, refused_length}
use Rattle.trace.proofs.following.follow.Goals as goal

-- an absent count gives the fault
of_ok_or : {A : Type 0} (f : FollowFault) (o : Option A) → Err f ≡ ok_or o Length → (o ≡ None) × (f ≡ Length)
of_ok_or f None e = (refl, cc)
of_ok_or f (Some x) e = absurd (let z : ◌≡◌ {A = ℕ} 0 1 = cc in omega arith)

-- a trace is as long as its records
sized : (o : Option ℕ) (n long : ℕ) → o ≡ Some n → IfSome o (λ n. (n ≤ 2048) × (long ≡ 16 * n)) → long ≡ 16 * n
sized o n long e h = (subst (λ (x : Option ℕ). IfSome x (λ n. (n ≤ 2048) × (long ≡ 16 * n))) e h).1

pub returns-in_err-records-clause-follows : goal.returns-in_err-records-clause-follows
returns-in_err-records-clause-follows g c =
    let p = err_from_is_err_and c.from_residual.result c.from_residual.ensures.1 in
    let q = of_ok_or _ c.count_of.result c.in_err-records.ensures.value in
    rw (p.1, p.2, q.1) (refused_length (g.G.Gauge.meaning) c.args.watch.now c.args.trace.now (sym c.count_of.ensures.value ∙ q.0))

pub loop-k-init : goal.loop-k-init
loop-k-init g c =
    let trace : List ℕ = c.args.trace.now in
    let e = c.into_iter-k-iterator.ensures.into_iter_gives in
    let all = c.enumerate-k-items.ensures.source in
    let n : c.into_iter-k-iterator.result.count ≡ 0 = ap (λ it. it.count) e ∙ c.enumerate-k-items.ensures.count in (
      ap (λ it. chunks_exact_size it.iter) e ∙ ap chunks_exact_size all ∙ c.chunks_exact.ensures.size,
      ap (λ it. chunks_exact_rest it.iter) e ∙ ap chunks_exact_rest all ∙ c.chunks_exact.ensures.rest ∙ ap (λ (k : ℕ). drop (16 * k) trace) (sym n),
      omega (arith, n),
      subst (λ (k : ℕ). Reaches (g.G.Gauge.meaning) c.args.watch.now trace k c.args.watch.now) (sym n) (reaches_none (g.G.Gauge.meaning) c.args.watch.now trace),
    )

pub loop-k-preserved : goal.loop-k-preserved
loop-k-preserved g c =
    let trace : List ℕ = c.args.trace.now in
    let k : ℕ = c.loop-k.k-iterator.count in
    let s = c.in-Some.ensures.steps in
    let i = c.loop-k.invariant in
    let p = next_piece 16 k trace (omega arith) i.0 i.1 s.0.1.0 s.0.1.1 in
    let n : c.next.new.self.count ≡ k + 1 = s.2 in
    let size = sized _ _ _ c.in_ok-records.ensures.ok_part c.count_of.ensures.size in
    let d = subst₂ (λ o j. CarriesOut (g.G.Gauge.meaning) c.loop-k.watch o j (Ok tt) c.follow_record.new.watch) (ap call_of (sym p.is)) s.1
    c.in_ok-follow_record.ensures.done in (
      s.0.0 ∙ i.0,
      p.left ∙ ap (λ (n : ℕ). drop (16 * n) trace) (sym n),
      omega (arith, n, p.within, size),
      subst (λ (n : ℕ). Reaches (g.G.Gauge.meaning) c.args.watch.now trace n c.follow_record.new.watch) (sym n)
          (reaches_more (g.G.Gauge.meaning) c.args.watch.now c.loop-k.watch c.follow_record.new.watch trace k i.3 d),
    )

pub returns-in_err-follow_record-clause-follows : goal.returns-in_err-follow_record-clause-follows
returns-in_err-follow_record-clause-follows g c =
    let trace : List ℕ = c.args.trace.now in
    let k : ℕ = c.loop-k.k-iterator.count in
    let s = c.in-Some.ensures.steps in
    let i = c.loop-k.invariant in
    let p = next_piece 16 k trace (omega arith) i.0 i.1 s.0.1.0 s.0.1.1 in
    let size = sized _ _ _ c.in_ok-records.ensures.ok_part c.count_of.ensures.size in
    let r = err_from_is_err_and c.from_residual-in_err-follow_record.result c.from_residual-in_err-follow_record.ensures.1 in
    let fault : FollowFault = c.in_err-follow_record.field-0.0 in
    let d = subst₂ (λ o j. CarriesOut (g.G.Gauge.meaning) c.loop-k.watch o j (Err fault) c.follow_record.new.watch) (ap call_of (sym p.is)) s.1
    c.in_err-follow_record.ensures.done in
    rw (r.1, r.2)
    (refused_at (g.G.Gauge.meaning) c.args.watch.now c.loop-k.watch c.follow_record.new.watch trace k i.3
    (sym c.count_of.ensures.value ∙ c.in_ok-records.ensures.ok_part) (omega (arith, p.within, size)) fault d)
