use Rattle.std.proofs.Common.{ℕ, ◌+◌, length, refl, ap, ◌∙◌}
use Rattle.arrayvec.specs.ArrayVec.{ArrayVec}
use Rattle.watch.specs.declared.cells.Entry.{Entry}
use Rattle.watch.specs.declared.cells.Cell.TheVariants.{Waiting}
use Rattle.watch.specs.Stored.{stores_waiting}
use Rattle.watch.proofs.Building.{pushed_leaf}
use Rattle.watch.proofs.builder.Builder.push_waiting.Goals as goal

pub returns : goal.returns
returns c =
    let e = c.enter.ensures in
    let w = c.write.ensures in
    record {
      builds = λ rule f r is ts h.
          pushed_leaf rule c.args.self.now c.enter.new.self c.write.new.self ts (Waiting c.args.wait) _ (stores_waiting r is) refl
          e.cells e.count e.entries w.cells w.count w.entries h;
      count = w.count ∙ ap (λ (n : ℕ). n + 1) e.count;
      depth = ap (λ (v : ArrayVec Entry). length v.items) w.entries ∙ e.depth;
    }
