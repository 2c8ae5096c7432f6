use Rattle.std.proofs.Common.{IfOk, [], subst}
use Rattle.gauge.specs.Meaning.{Meaning}
use Rattle.rule.specs.Rules.{formula_for}
use Rattle.trace.specs.Following.{extended, Follows, FinalAfter}
use Rattle.line.proofs.program.follow_on_rack.Goals as goal

pub returns-clause-follows : goal.returns-clause-follows
returns-clause-follows c =
    subst (λ (m : Meaning). Follows m (formula_for c.args.rule) [] c.args.trace.now c.follow_new.result) c.rack.ensures.meaning
    c.follow_new.ensures.follows

pub returns-clause-lasts : goal.returns-clause-lasts
returns-clause-lasts c =
    subst
    (λ (m : Meaning). IfOk c.follow_new.result
    (λ x. FinalAfter m (formula_for c.args.rule) (extended [] c.args.trace.now x.records) x.verdict))
    c.rack.ensures.meaning c.follow_new.ensures.lasts
