-- A record's formula and weight, by those of the records that its links lead to.
use Rattle.std.proofs.Common.{◌≡◌, ℕ, suc, ◌+◌, ◌<◌, ◌≤◌, true, length, take, Some, None, Option, sym, ap, ◌∙◌, arith}
use Rattle.wmtl.specs.Formula.{Formula, Operands, none, more}
use Rattle.rule.specs.declared.faults.Condition.TheVariants.{Links, Operands as OperandCount}
use Rattle.rule.specs.declared.rules.Rule.{Rule}
use Rattle.rule.specs.Conditions.{led, spans, count_ok}
use Rattle.rule.specs.Formulas.{first_of, formula_over, chains}
use Rattle.rule.proofs.Back.{Ahead, first_ahead, next_ahead, made_at, span_at}
use Rattle.rule.proofs.Weights.{weight_bound}
use Rattle.rule.specs.Rules.{record_in, formula_in, weight_in}
use Rattle.watch.specs.Windows.{own_weight}

module _ (rule : Rule) where
  -- every record's number stands inside the places
  len : rule.last < length rule.records
  len = omega (arith, rule.sized.1, rule.full)

  -- the operands that a link leads to
  abbrev pub chain_of : Option ℕ → Operands
  chain_of l = led none (chains (take (rule.last + 1) rule.records)) l

  pub formula_at_lem : (k : ℕ) → k ≤ rule.last → formula_in rule k ≡ formula_over (record_in rule k).kind (record_in rule k) (chain_of (record_in rule k).first)
  formula_at_lem k le = ap first_of (made_at (λ r down on. more (formula_over r.kind r down) on) none rule.records rule.last k len le (rule.lawful Links k le))

  pub chain_at : (j : ℕ) → j ≤ rule.last → chain_of (Some j) ≡ more (formula_in rule j) (chain_of (record_in rule j).next)
  chain_at j le =
      made_at (λ r down on. more (formula_over r.kind r down) on) none rule.records rule.last j len le (rule.lawful Links j le)
      ∙ ap (λ (f : Formula). more f (chain_of (record_in rule j).next)) (sym (formula_at_lem j le))

  pub weight_at : (j : ℕ) → j ≤ rule.last → weight_in rule (Some j) ≡ own_weight rule j + weight_in rule (record_in rule j).next
  weight_at j le =
      let e = made_at (λ r down on. suc (down + on)) 0 rule.records rule.last j len le (rule.lawful Links j le) in
      omega arith

  pub first_behind : (k : ℕ) → k ≤ rule.last → Ahead rule.last k (record_in rule k).first
  first_behind k le = first_ahead rule.records rule.last k (rule.lawful Links k le)

  pub next_behind : (k : ℕ) → k ≤ rule.last → Ahead rule.last k (record_in rule k).next
  next_behind k le = next_ahead rule.records rule.last k (rule.lawful Links k le)

  -- the number of operands of record k
  pub counted : (k : ℕ) → k ≤ rule.last → count_ok (record_in rule k).kind (led 0 (spans (take (rule.last + 1) rule.records)) (record_in rule k).first) ≡ true
  counted k le = rule.lawful OperandCount k le

  -- the first operand is there, where a kind has operands
  pub span_one : (j : ℕ) → j ≤ rule.last → led 0 (spans (take (rule.last + 1) rule.records)) (Some j) ≡ suc (led 0 (spans (take (rule.last + 1) rule.records)) (record_in rule j).next)
  span_one j le = span_at rule.records rule.last j len le (rule.lawful Links j le)

  -- what a link of record k leads to has at most 64 records
  pub light : (k : ℕ) → k ≤ rule.last → weight_in rule (record_in rule k).first ≤ 64
  light k le = go (record_in rule k).first (first_behind k le)
    where
      go : (l : Option ℕ) → Ahead rule.last k l → weight_in rule l ≤ 64
      go None h = omega (arith, rule.sized.1)
      go (Some j) h =
          let a = h.0 in
          let hi = rule.sized.1 in
          let w = weight_bound rule.records rule.last len (rule.lawful Links) j (omega arith) h.1 in
          omega arith
