use Rattle.rule.proofs.Written.{below_none, below_more}
use Rattle.rule.proofs.encode.write_records.Goals as goal

pub loop-k-init : goal.loop-k-init
loop-k-init c = below_none c.args.records.now c.args.buf.now

pub loop-k-preserved : goal.loop-k-preserved
loop-k-preserved c = below_more c.args.records.now c.loop-k.k c.args.buf.now c.loop-k.buf _ c.bytes_at.result
    c.loop-k.invariant c.bytes_at.ensures c.put.ensures
