use Rattle.std.proofs.Common.{Bool, true, false, cond, []}
use Rattle.wmtl.specs.Residual.{is_true, is_false}
use Rattle.rule.specs.declared.rules.Rule.{Rule}
use Rattle.watch.specs.Stored.{Stores, stores_true, stores_false}
use Rattle.watch.proofs.Building.{pushed, held_same}
use Rattle.watch.proofs.builder.Builder.push_settled.Goals as goal

constant : (rule : Rule) (b : Bool) → Stores rule [] (cond b is_true is_false)
constant rule true = stores_true
constant rule false = stores_false

pub returns : goal.returns
returns c =
    let e = c.enter.ensures in
    let v = c.from.ensures in
    record {
      builds = λ rule ts h.
          pushed rule c.args.self.now c.enter.new.self ts [] _ c.from.result (constant rule c.args.value) v
          e.entries (held_same _ _ _ _ e.cells e.count) h;
      count = e.count;
      depth = e.depth;
    }
