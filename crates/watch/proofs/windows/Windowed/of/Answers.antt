use Rattle.std.proofs.Common.{sym, ap, ◌∙◌}
use Rattle.rule.specs.declared.kinds.Record.{Record}
use Rattle.watch.specs.declared.cells.Operator.TheVariants.{Both, Either}
use Rattle.watch.proofs.Trees.{formula_at_lem}
use Rattle.watch.proofs.Sided.{no_window, has_operand, one_found, two_found}
use Rattle.watch.proofs.windows.Windowed.of.Goals as goal

pub returns-in_err-first : goal.returns-in_err-first
returns-in_err-first c =
    let s = c.args.rule.now in
    let q = c.in_ok-r.ensures in
    rw c.from_residual-in_err-first.ensures
    (λ t r e. has_operand s c.args.k r.1 t e (ap (λ (x : Record). x.first) (sym q.value) ∙ c.in_err-first.was))

pub returns-in_default : goal.returns-in_default
returns-in_default c =
    let s = c.args.rule.now in
    let q = c.in_ok-r.ensures in
    let n = c.in_default in
    let k = ap (λ (x : Record). x.kind) q.value in
    λ t r e. no_window _ _ _ t (λ h. n.not-Until (k ∙ h)) (λ h. n.not-Release (k ∙ h)) (λ h. n.not-Eventually (k ∙ h)) (λ h. n.not-Always (k ∙ h))
    (sym (formula_at_lem s c.args.k r.1) ∙ e)

pub returns-in-Until : goal.returns-in-Until
returns-in-Until c =
    let s = c.args.rule.now in
    let q = c.in_ok-r.ensures in
    two_found s c.args.k _ q.number _ q.value c.in_ok-first.was Both c.in-Until.is _ c.with_two_sides.ensures _

pub returns-in-Release : goal.returns-in-Release
returns-in-Release c =
    let s = c.args.rule.now in
    let q = c.in_ok-r.ensures in
    two_found s c.args.k _ q.number _ q.value c.in_ok-first.was Either c.in-Release.is _ c.with_two_sides-in-Release.ensures _

pub returns-in-Eventually : goal.returns-in-Eventually
returns-in-Eventually c =
    let s = c.args.rule.now in
    let q = c.in_ok-r.ensures in
    one_found s c.args.k _ q.number _ q.value c.in_ok-first.was Both c.in-Eventually.is _ c.new.ensures

pub returns-in-Always : goal.returns-in-Always
returns-in-Always c =
    let s = c.args.rule.now in
    let q = c.in_ok-r.ensures in
    one_found s c.args.k _ q.number _ q.value c.in_ok-first.was Either c.in-Always.is _ c.new-in-Always.ensures
