-- What an observation makes of a record, by its kind.
use Rattle.std.proofs.Common.{◌≡◌, ℕ, suc, ◌+◌, ◌-◌, ◌<◌, ◌≤◌, Bool, true, false, cond, not, leb, take, Some, None, Option, sym, refl, ap, ◌∙◌, subst, arith, leb-true}
use borrow.Author.Tests.{clash}
use Rattle.gauge.specs.Meaning.{Meaning}
use Rattle.wmtl.specs.Formula.{Operands, next}
use Rattle.wmtl.specs.Residual.{Term, fresh_observed}
use Rattle.rule.specs.declared.kinds.Kind.{Kind}
use Rattle.rule.specs.declared.kinds.Kind.TheVariants.{Next}
use Rattle.rule.specs.declared.kinds.Record.{Record}
use Rattle.rule.specs.declared.rules.Rule.{Rule}
use Rattle.rule.specs.Conditions.{led, spans, count_ok, marked, fields_ok}
use Rattle.rule.specs.Formulas.{first_of, formula_over}
use Rattle.rule.proofs.Back.{Ahead, and_left}
use Rattle.rule.specs.Rules.{IsRecord, record_in, formula_in, weight_in}
use Rattle.watch.specs.declared.cells.Operator.{Operator}
use Rattle.watch.specs.declared.cells.Operator.TheVariants.{Both, Either}
use Rattle.watch.specs.Opening.{neutral, operands_observed, chain_observed, InRule, reach}
use Rattle.watch.specs.Stored.{joined}
use Rattle.watch.specs.Windows.{own_weight}
use Rattle.watch.proofs.Trees.{chain_of, formula_at_lem, chain_at, weight_at, first_behind, next_behind, counted}

-- a mark is below 32 where its kind uses it
pub mark_small : (r : Record) → fields_ok r ≡ true → marked r.kind ≡ true → r.mark < 32
mark_small r h m =
    let a : leb r.mark (cond (marked r.kind) 31 0) ≡ true = and_left _ _ (and_left _ _ (and_left _ _ (and_left _ _ h))) in
    let b : leb r.mark 31 ≡ true = ap (λ (x : Bool). leb r.mark (cond x 31 0)) (sym m) ∙ a in
    let c = leb-true r.mark 31 b in
    omega arith

-- a link of record k leads to a record of the rule, further on
pub link_in : (rule : Rule) (k : ℕ) (l : Option ℕ) → k ≤ rule.last → Ahead rule.last k l → InRule rule l × (reach l + 1 ≤ 65 - k)
link_in rule k None le h = (tt, omega (arith, rule.sized.1))
link_in rule k (Some j) le h = ((omega (arith, h.0), h.1), omega (arith, h.0, h.1, rule.sized.1))

-- what is known of a record that was read as record k: where its first link leads
pub record IsRead (rule : Rule) (k : ℕ) (r : Record) : Type 0 where
  pub inside : InRule rule r.first
  pub reaches : reach r.first + 1 ≤ 65 - k
  pub weighs : weight_in rule r.first ≡ weight_in rule (record_in rule k).first

pub is_read : (rule : Rule) (k : ℕ) (r : Record) → IsRecord rule k → r ≡ record_in rule k → IsRead rule k r
is_read rule k r known is =
    let l = link_in rule k r.first known.1
    (subst (λ (x : Record). Ahead rule.last k x.first) (sym is) (first_behind rule k known.1)) in
    record { inside = l.0; reaches = l.1; weighs = ap (λ (x : Record). weight_in rule x.first) is }

-- what is known of record j at the front of a chain, and of the link behind it
pub record IsFront (rule : Rule) (j : ℕ) (link behind : Option ℕ) : Type 0 where
  pub known : IsRecord rule j
  pub is : behind ≡ (record_in rule j).next
  pub inside : InRule rule behind
  pub reaches : reach behind + 1 ≤ 65 - j
  pub reached : reach link ≡ 65 - j
  pub weighs : weight_in rule link ≡ suc (weight_in rule (record_in rule j).first) + weight_in rule behind

pub is_front : (rule : Rule) (j : ℕ) (link behind : Option ℕ) → link ≡ Some j → InRule rule link
    → (IsRecord rule j → behind ≡ (record_in rule j).next) → IsFront rule j link behind
is_front rule j link behind e within b =
    let known : IsRecord rule j = subst (InRule rule) e within in
    let l = subst (λ (l : Option ℕ). InRule rule l × (reach l + 1 ≤ 65 - j)) (sym (b known))
    (link_in rule j (record_in rule j).next known.1 (next_behind rule j known.1)) in
    record {
      known = known;
      is = b known;
      inside = l.0;
      reaches = l.1;
      reached = ap reach e;
      weighs = ap (weight_in rule) e ∙ weight_at rule j known.1 ∙ ap (λ (l : Option ℕ). own_weight rule j + weight_in rule l) (sym (b known));
    }

pub pick_not : (b : Bool) (t u : Term) → cond (not b) t u ≡ cond b u t
pick_not true t u = refl
pick_not false t u = refl

-- no operand changes nothing
pub none_observed : (o : Operator) (m : Meaning) (s : ℕ) (rule : Rule) → chain_observed o m s rule None ≡ neutral o
none_observed Both m s rule = refl
none_observed Either m s rule = refl

module _ (rule : Rule) where
  pub formula_of_lem : (k : ℕ) → k ≤ rule.last → (r : Record) → r ≡ record_in rule k → (q : Kind) → r.kind ≡ q
      → formula_in rule k ≡ formula_over q r (chain_of rule r.first)
  formula_of_lem k le r is q e =
      formula_at_lem rule k le
      ∙ ap (λ (x : Record). formula_over x.kind x (chain_of rule x.first)) (sym is)
      ∙ ap (λ (x : Kind). formula_over x r (chain_of rule r.first)) e

  pub chain_observed_lem : (o : Operator) (m : Meaning) (s j : ℕ) → j ≤ rule.last
      → chain_observed o m s rule (Some j) ≡ joined o (fresh_observed m s (formula_in rule j)) (chain_observed o m s rule (record_in rule j).next)
  chain_observed_lem Both m s j le = ap (operands_observed Both m s) (chain_at rule j le)
  chain_observed_lem Either m s j le = ap (operands_observed Either m s) (chain_at rule j le)

  -- record k of kind next is fresh of its operand
  pub next_first : (k : ℕ) → k ≤ rule.last → (r : Record) → r ≡ record_in rule k → r.kind ≡ Next
      → (j : ℕ) × (r.first ≡ Some j) × (IsRecord rule j) × (formula_in rule k ≡ next (formula_in rule j))
  next_first k le r is e = go r.first refl
    where
      count : count_ok Next (led 0 (spans (take (rule.last + 1) rule.records)) r.first) ≡ true
      count =
          ap (λ (x : Kind). count_ok x (led 0 (spans (take (rule.last + 1) rule.records)) r.first)) (sym e)
          ∙ ap (λ (x : Record). count_ok x.kind (led 0 (spans (take (rule.last + 1) rule.records)) x.first)) is ∙ counted rule k le

      go : (l : Option ℕ) → r.first ≡ l → (j : ℕ) × (r.first ≡ Some j) × (IsRecord rule j) × (formula_in rule k ≡ next (formula_in rule j))
      go None f = absurd (clash (ap (λ (l : Option ℕ). count_ok Next (led 0 (spans (take (rule.last + 1) rule.records)) l)) (sym f) ∙ count))
      go (Some j) f =
          let a = subst (Ahead rule.last k) (ap (λ (x : Record). x.first) (sym is) ∙ f) (first_behind rule k le) in
          let lt = a.0 in (
            j,
            f,
            (omega arith, a.1),
            formula_of_lem k le r is Next e ∙ ap (λ (l : Option ℕ). next (first_of (chain_of rule l))) f
                ∙ ap (λ (fs : Operands). next (first_of fs)) (chain_at rule j a.1),
          )
