use Rattle.std.proofs.Common.{◌≡◌, ℕ, ◌+◌, true, List, take, Option, subst, arith}
use Rattle.rule.specs.declared.kinds.Record.{Record}
use Rattle.rule.specs.Conditions.{at, spans, led, links_ok}
use Rattle.rule.proofs.Back.{Ahead, ahead_less, next_ahead, span_at}
use Rattle.rule.proofs.draft.Draft.operands.Goals as goal

pub loop-link-preserved : goal.loop-link-preserved
loop-link-preserved c =
    let rs : List Record = c.args.self.now.records in
    let last : ℕ = c.args.self.now.last in
    let j : ℕ = c.in-Some.j in
    let n : ℕ = c.loop-link.n in
    let a = subst (λ (l : Option ℕ). Ahead last n l) c.in-Some.is c.loop-link.invariant.1 in
    let ok : links_ok rs last j ≡ true = c.requires.linked j a.1 in
    let e = subst (λ (l : Option ℕ). n + led 0 (spans (take (last + 1) rs)) l ≡ led 0 (spans (take (last + 1) rs)) (at rs c.args.k).first) c.in-Some.is c.loop-link.invariant.0 in
    let s = span_at rs last j (omega (arith, c.args.self.now.sized.1, c.args.self.now.full)) a.1 ok in
    (omega (arith, e, s), ahead_less last (n + 1) j (at rs j).next (omega (arith, a.0)) (next_ahead rs last j ok))
