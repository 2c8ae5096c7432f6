use Rattle.std.proofs.Common.{◌*◌, ◌≤◌, [], length, take}
use Rattle.arrayvec.specs.ArrayVec.{array_vec_len}
use Rattle.wmtl.specs.Residual.{Term}
use Rattle.watch.specs.Passes.{passed}
use Rattle.watch.specs.Stored.{Stores}
use Rattle.watch.specs.Working.{Builds}
use Rattle.watch.proofs.builder.Builder.rewrite.Given as goal

abbrev pub invariant-loop-cell : goal.invariant-loop-cell
invariant-loop-cell g l =
    (l.cell-index ≤ length l.cells)
    × (l.self.count ≤ g.P.Pass.growth l.pass * l.cell-index)
    × (array_vec_len l.self.entries ≤ l.cell-index)
    × ((t : Term) → Stores (g.P.Pass.rule l.pass) l.cells t
    → Builds (g.P.Pass.rule l.pass) l.self (passed (g.P.Pass.rule l.pass) (g.P.Pass.rewritten l.pass) (take l.cell-index l.cells) []))
