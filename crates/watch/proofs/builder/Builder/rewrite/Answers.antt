use Rattle.std.proofs.Common.{◌≡◌, ℕ, subst, ◌+◌, ◌*◌, ◌<◌, ◌≤◌, length, arith, mul-le-mul_right}
use Rattle.watch.specs.Working.{Builds}
use Rattle.watch.proofs.Passing.{pass_more, pass_all}
use Rattle.watch.proofs.builder.Builder.rewrite.Goals as goal

-- so many leaves of so much growth
few_cells : (growth i n : ℕ) → growth ≤ 325 → i < n → n ≤ 1024 → growth * i + 325 < 2147483648
few_cells growth i n g h k = let p : growth * i ≤ 325 * i = mul-le-mul_right i g in omega (arith, p)

one_cell_more : (growth i count : ℕ) → count ≤ growth * i → count + growth ≤ growth * (i + 1)
one_cell_more growth i count h = let e : growth * (i + 1) ≡ growth * i + growth = omega arith in omega (arith, e)

pub loop-cell-preserved : goal.loop-cell-preserved
loop-cell-preserved g c =
    let rule = g.P.Pass.rule c.args.pass.now in
    let i : ℕ = c.loop-cell.cell-index in
    let lt : i < length c.args.cells.now = c.loop-cell-test.true in
    let e = c.rewrite_cell.ensures in
    let v = c.loop-cell.invariant in (
      omega arith,
      omega (arith, e.count, one_cell_more _ i _ v.1),
      omega (arith, e.depth, v.2),
      λ t h. pass_more rule (g.P.Pass.rewritten c.args.pass.now) (Builds rule c.loop-cell.self) (Builds rule c.rewrite_cell.new.self)
          c.args.cells.now t i lt h e.builds (v.3 t h),
    )

pub returns : goal.returns
returns g c =
    let rule = g.P.Pass.rule c.args.pass.now in
    let v = c.loop-cell.invariant in
    let done : length c.args.cells.now ≤ c.loop-cell.cell-index = c.loop-cell-test.false in
    record {
      builds = λ t e h. pass_all rule (g.P.Pass.rewritten c.args.pass.now) (g.met.P.Pass.upward c.args.pass.now) (Builds rule c.loop-cell.self)
          c.args.cells.now t c.loop-cell.cell-index done h e (v.3 t h);
      count = let all : c.loop-cell.cell-index ≡ length c.args.cells.now = omega (arith, v.0, done) in subst (λ (i : ℕ). c.loop-cell.self.count ≤ g.P.Pass.growth c.args.pass.now * i) all v.1;
    }
